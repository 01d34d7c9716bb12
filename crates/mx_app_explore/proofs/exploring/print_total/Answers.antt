use Rattle.std.proofs.Common.{◌≡◌, ◌∙◌, ◌++◌, List, ℕ, ap, inr, refl, subst}
use Rattle.std.proofs.lemmas.Result.{IfErr-weaker, err_from_is_err_and, on_ok_weaker}
use Rattle.std.specs.Io.KnownBytes.{Appends}
use Rattle.mx_app_failure.specs.Failure.{IsWanting, PrintsFront}
use Rattle.mx_app_step.proofs.FrontLemmas.{front_none}
use Rattle.mx_app_explore.specs.FoundText.{total_text}
use Rattle.mx_app_explore.proofs.FoundLemmas.{err_both}
use Rattle.mx_app_explore.proofs.exploring.print_total.Goals as goal

pub returns-in_err-push_total-clause-untold : goal.returns-in_err-push_total-clause-untold
returns-in_err-push_total-clause-untold g c =
    let p = err_from_is_err_and c.from_residual.result c.from_residual.ensures.1 in
    rw (p.1, p.2) (inr refl, front_none _ _)

pub returns-clause-told : goal.returns-clause-told
returns-clause-told g c =
    let x = g.W.Write.contents c.args.out.now in
    let y = g.W.Write.contents c.print_text.new.out in
    let items : c.push_total.new.text.items ≡ total_text c.args.departures c.args.tally.now =
    ◌∙◌ {A = List ℕ} c.in_ok-push_total.ensures (ap (λ (l : List ℕ). l ++ total_text c.args.departures c.args.tally.now) c.new-text.ensures.items) in
    on_ok_weaker c.print_text.result (λ b. subst (λ (text : List ℕ). Appends x y text) (c.as_slice.ensures.value ∙ items) b) c.print_text.ensures.bytes

pub returns-clause-untold : goal.returns-clause-untold
returns-clause-untold g c =
    let x = g.W.Write.contents c.args.out.now in
    let y = g.W.Write.contents c.print_text.new.out in
    let items : c.push_total.new.text.items ≡ total_text c.args.departures c.args.tally.now =
    ◌∙◌ {A = List ℕ} c.in_ok-push_total.ensures (ap (λ (l : List ℕ). l ++ total_text c.args.departures c.args.tally.now) c.new-text.ensures.items) in
    IfErr-weaker c.print_text.result (λ f. IsWanting f × PrintsFront (λ text. Appends x y text) c.as_slice.result.now) _
    (λ f h. (h.0, subst (PrintsFront (λ text. Appends x y text)) (c.as_slice.ensures.value ∙ items) h.1))
    (err_both c.print_text.result IsWanting (λ f. PrintsFront (λ text. Appends x y text) c.as_slice.result.now) c.print_text.ensures.err c.print_text.ensures.front)
