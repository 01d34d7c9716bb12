-- What is noted of an open offer that is met.
use Rattle.std.proofs.Common.{◌≡◌, ◌∙◌, ◌-◌, ◌++◌, ◌&&◌, ◌||◌, ℕ, Bool, true, false, List, [], ◌∷◌, drop, length, ap, sym}
use Rattle.std.specs.Prelude.{slice_get}
use Rattle.mx_explore.specs.declared.passing.Departure.{Departure}
use Rattle.mx_explore.specs.declared.passing.Met.{Met}
use Rattle.mx_explore.specs.Passing.{Standing, begins, goes_on, noted, passes, turns_of}
use Rattle.mx_explore.proofs.FollowLemmas.{noted_if}

module _ (s : Standing) (m : Met) (goes begun : Bool) (is : goes ≡ goes_on s m.offer) (at : begun ≡ begins s m.offer) where
  -- ---- whether it is passed

  pub passed_on : goes ≡ true → true ≡ passes s m.offer
  passed_on on = ap (λ b. b || begins s m.offer) (sym on ∙ is)

  pub passed_begins : goes ≡ false → begun ≡ true → true ≡ passes s m.offer
  passed_begins off on = sym on ∙ at ∙ ap (λ b. b || begins s m.offer) (sym off ∙ is)

  pub not_passed : goes ≡ false → begun ≡ false → false ≡ passes s m.offer
  not_passed off none = sym none ∙ at ∙ ap (λ b. b || begins s m.offer) (sym off ∙ is)

  -- ---- what is noted

  module _ (met : List Met) (e : met ≡ s.met ++ m ∷ []) where
    pub noted_on : (after : ℕ) → after ≡ length met → goes ≡ true
        → (let z : Standing = record { ahead = s.ahead; waits = s.waits - 1; met = met; after = after; kept = s.kept && m.is_begun } in z) ≡ noted s m
    noted_on after n on =
        ap (λ k. let z : Standing = record { ahead = s.ahead; waits = s.waits - 1; met = met; after = k; kept = s.kept && m.is_begun } in z) n
        ∙ ap (λ (l : List Met). let z : Standing = record { ahead = s.ahead; waits = s.waits - 1; met = l; after = length l; kept = s.kept && m.is_begun } in z) e
        ∙ ap (λ b. noted_if b (begins s m.offer) s m) (sym on ∙ is)

    pub noted_begins : (first : Departure) (later : List Departure) (after : ℕ) → s.ahead ≡ first ∷ later → after ≡ length met → goes ≡ false → begun ≡ true
        → (let z : Standing = record { ahead = later; waits = first.turns - 1; met = met; after = after; kept = s.kept } in z) ≡ noted s m
    noted_begins first later after ahead n off on =
        ap (λ k. let z : Standing = record { ahead = later; waits = first.turns - 1; met = met; after = k; kept = s.kept } in z) n
        ∙ ap (λ (l : List Met). let z : Standing = record { ahead = later; waits = first.turns - 1; met = l; after = length l; kept = s.kept } in z) e
        ∙ ap (λ (l : List Departure). let z : Standing = record { ahead = drop 1 l; waits = turns_of (slice_get l 0) - 1; met = s.met ++ m ∷ []; after = length (s.met ++ m ∷ []); kept = s.kept } in z) (sym ahead)
        ∙ ap (λ b. noted_if false b s m) (sym on ∙ at)
        ∙ ap (λ b. noted_if b (begins s m.offer) s m) (sym off ∙ is)

    pub noted_only : goes ≡ false → begun ≡ false → (let z : Standing = record s { met = met } in z) ≡ noted s m
    noted_only off none =
        ap (λ (l : List Met). let z : Standing = record s { met = l } in z) e
        ∙ ap (λ b. noted_if false b s m) (sym none ∙ at)
        ∙ ap (λ b. noted_if b (begins s m.offer) s m) (sym off ∙ is)
