use Rattle.std.proofs.Common.{◌++◌, ◌∙◌, Option, ap, sym}
use Rattle.std.proofs.lemmas.List.{append-nil}
use Rattle.std.proofs.lemmas.Option.{slice_get_past}
use Rattle.mx_machine.specs.declared.config.ServiceLine.{ServiceLine}
use Rattle.mx_why.specs.Unfit.{unfit_line}
use Rattle.mx_why.proofs.unfit.push_unfit_at.Goals as goal

pub returns-in-None : goal.returns-in-None
returns-in-None c =
    let past = slice_get_past c.args.lines.now c.args.slot c.in-None.ensures.lookup.3 in
    sym (ap (λ (o : Option ServiceLine). c.args.found.now.items ++ unfit_line c.args.rules c.args.lines.now c.args.slot o) past ∙ append-nil c.args.found.now.items)
