-- A search's answer: what it found, and the place.
use Rattle.std.proofs.Common.{◌≡◌, ◌∙◌, ◌++◌, ℕ, Bool, true, false, List, Result, Ok, Err, IfOk, Vec, Global, ap, subst, sym}
use Rattle.mx_walk.specs.declared.positions.Position.{Position}
use Rattle.mx_walk.specs.Walks.{Walk}
use Rattle.mx_app_look.specs.declared.sight.Sight.{Sight}
use Rattle.mx_app_look.specs.Places.{place_text}
use Rattle.mx_app_look.specs.Seeking.{IsGoneBy, IsGoneIf, IsHalted, has_points, no_points}

pub halted_by : {E : Type 0} (s : Sight) (w : Walk) (printed : List ℕ) (Halts : Position × List ℕ → Type 0) (r : Result (Sight × Vec ℕ Global) E)
    → w ≡ record s.walker { here = w.here } → Halts (w.here, printed)
    → IfOk r (λ (a : Sight × Vec ℕ Global). a.0 ≡ (let v : Sight = record { walker = w; points = s.points } in v)) → IfOk r (λ (a : Sight × Vec ℕ Global). a.1.items ≡ printed ++ place_text w)
    → IfOk r (λ (a : Sight × Vec ℕ Global). (h : Position × List ℕ) × Halts h × IsHalted s h a.0 a.1.items)
halted_by s w printed Halts (Ok a) moved there sight text = (
  (w.here, printed),
  there,
  (
    sight ∙ ap (λ (k : Walk). let v : Sight = record s { walker = k } in v) moved,
    text ∙ ap (λ (v : Sight). printed ++ place_text v.walker) (sym sight),
  ),
)
halted_by s w printed Halts (Err e) moved there sight text = tt

-- what two clauses say of an answer
pub both_hold : {A E : Type 0} (r : Result A E) (P Q R : A → Type 0) → ((a : A) → P a → Q a → R a) → IfOk r P → IfOk r Q → IfOk r R
both_hold (Ok a) P Q R f p q = f a p q
both_hold (Err e) P Q R f p q = tt

-- ---- a search that is made if there is something to halt at

pub gone_if : {E : Type 0} (IsGone : Sight → Sight → List ℕ → Type 0) (s : Sight) (r : Result (Sight × Vec ℕ Global) E) → has_points s.points ≡ true → IfOk r (λ (a : Sight × Vec ℕ Global). IsGone s a.0 a.1.items)
    → IfOk r (λ (a : Sight × Vec ℕ Global). IsGoneIf IsGone s a.0 a.1.items)
gone_if IsGone s r is h = subst (λ (b : Bool). IfOk r (λ (a : Sight × Vec ℕ Global). IsGoneBy b IsGone s a.0 a.1.items)) (sym is) h

pub ungone : {E : Type 0} (IsGone : Sight → Sight → List ℕ → Type 0) (s : Sight) (r : Result (Sight × Vec ℕ Global) E) → has_points s.points ≡ false → IfOk r (λ (a : Sight × Vec ℕ Global). a.0 ≡ s) → IfOk r (λ (a : Sight × Vec ℕ Global). a.1.items ≡ no_points)
    → IfOk r (λ (a : Sight × Vec ℕ Global). IsGoneIf IsGone s a.0 a.1.items)
ungone IsGone s r is same text =
    subst (λ (b : Bool). IfOk r (λ (a : Sight × Vec ℕ Global). IsGoneBy b IsGone s a.0 a.1.items)) (sym is)
    (both_hold r (λ a. a.0 ≡ s) (λ a. a.1.items ≡ no_points) (λ a. IsGoneBy false IsGone s a.0 a.1.items) (λ a e t. (e, t)) same text)
