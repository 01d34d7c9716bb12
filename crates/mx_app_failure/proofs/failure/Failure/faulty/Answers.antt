use Rattle.mx_app_failure.proofs.Texts.{faulty_told}
use Rattle.mx_app_failure.proofs.failure.Failure.faulty.Goals as goal

pub returns-in-At : goal.returns-in-At
returns-in-At c = faulty_told c.args.error c.in-At.fault c.args.text c.in-At.is
