use Rattle.std.proofs.Common.{◌≡◌, ◌∙◌, ℕ, Bor, List, ap, map, refl, sym}
use Rattle.std.specs.Prelude.{codes}
use Rattle.mx_app.specs.Asking.{begin_with, help_last}
use Rattle.mx_app.proofs.Moved.{moved, unmoved}
use Rattle.mx_app.proofs.asking.texts_asked.Goals.{then-begin_with+in_ok-push, else-begin_with}
use Rattle.mx_app.proofs.asking.texts_asked.Goals as goal

pub returns-clause-texts : goal.returns-clause-texts
returns-clause-texts c =
    let had = c.in_ok-texts.texts.items in
    let asked = ap (λ (ts : List (Bor (List ℕ))). begin_with (codes "help") (map (λ s. s.now) ts)) (sym c.as_slice.ensures.value) ∙ sym c.begin_with.ensures in
    elim c.if-begin_with.branch [
      | then-begin_with+in_ok-push w ↦
          let same : map (λ s. s.now) c.if-begin_with.texts.items ≡ map (λ s. s.now) w.push.new.self.items = (λ k. map (λ s. s.now) (w.texts-is k).items) in
          same
          ∙ moved (λ (s : Bor (List ℕ)). s.now) had _ w.push.new.self.items _ (asked ∙ w.if-begin_with.true)
          w.remove.ensures.items w.in_ok-push.ensures.items refl
          ∙ ap help_last c.in_ok-texts.ensures.texts
      | else-begin_with w ↦
          let same : map (λ s. s.now) c.if-begin_with.texts.items ≡ map (λ s. s.now) had = (λ k. map (λ s. s.now) (w.texts-is k).items) in
          same ∙ unmoved (λ (s : Bor (List ℕ)). s.now) had (asked ∙ w.if-begin_with.false) ∙ ap help_last c.in_ok-texts.ensures.texts
    ]
