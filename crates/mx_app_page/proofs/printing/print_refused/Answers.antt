use Rattle.std.proofs.Common.{◌∙◌, List, ℕ, IfErr, Option, Some, ap, subst}
use Rattle.std.specs.Io.KnownBytes.{Appends}
use Rattle.mx_app_step.specs.Failure.{PrintsFront}
use Rattle.mx_app_step.proofs.FrontLemmas.{err_always, front_none}
use Rattle.mx_app_page.specs.Pages.{back_text}
use Rattle.mx_app_page.proofs.printing.print_refused.Goals as goal

pub returns-in_err-line-clause-front : goal.returns-in_err-line-clause-front
returns-in_err-line-clause-front g c = err_always c.from_residual.result _ (front_none (g.W.Write.contents c.args.out.now) _)

pub returns-clause-front : goal.returns-clause-front
returns-clause-front g c =
    let x = g.W.Write.contents c.args.out.now in
    let y = g.W.Write.contents c.print_back.new.out in
    subst (λ (o : Option (List ℕ)). IfErr c.print_back.result (λ _. PrintsFront (λ s. Appends x y s) (back_text c.args.rows o))) (ap Some (c.as_slice.ensures.value ∙ c.in_ok-line.ensures)) c.print_back.ensures.front
