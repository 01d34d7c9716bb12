use Rattle.std.proofs.Common.{◌∙◌, List, ℕ, IfErr, subst}
use Rattle.std.specs.Io.KnownBytes.{Appends}
use Rattle.mx_app_step.specs.Failure.{PrintsFront}
use Rattle.mx_app_step.proofs.FrontLemmas.{err_always, front_none}
use Rattle.mx_app_page.proofs.printing.print_back.Goals as goal

pub returns-in_err-text-clause-front : goal.returns-in_err-text-clause-front
returns-in_err-text-clause-front g c = err_always c.from_residual.result _ (front_none (g.W.Write.contents c.args.out.now) _)

pub returns-clause-front : goal.returns-clause-front
returns-clause-front g c =
    let x = g.W.Write.contents c.args.out.now in
    let y = g.W.Write.contents c.print_text.new.out in
    subst (λ (t : List ℕ). IfErr c.print_text.result (λ _. PrintsFront (λ s. Appends x y s) t)) (c.as_slice.ensures.value ∙ c.in_ok-text.ensures) c.print_text.ensures.front
