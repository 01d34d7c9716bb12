use Rattle.std.proofs.Common.{◌∙◌, sym}
use Rattle.mx_app.proofs.Complaints.{complaint_explained}
use Rattle.mx_app.proofs.command_status.complaint_of.Goals as goal

pub returns-in-Ok : goal.returns-in-Ok
returns-in-Ok c = complaint_explained c.args.line c.args.shows c.args.failure c.in-Ok.text (sym c.explains.ensures ∙ c.if-not-explains.false) c.in-Ok.ensures
