use Rattle.std.proofs.Common.{◌∙◌, List, ℕ, IfErr, subst}
use Rattle.std.specs.Io.KnownBytes.{Appends}
use Rattle.mx_app_failure.specs.Failure.{PrintsFront}
use Rattle.mx_app_step.proofs.FrontLemmas.{err_always, front_none}
use Rattle.mx_app_page.proofs.strips.print_range.Goals as goal

pub returns-in_err-push_range-clause-front : goal.returns-in_err-push_range-clause-front
returns-in_err-push_range-clause-front g c = err_always c.from_residual.result _ (front_none (g.W.Write.contents c.args.out.now) _)
