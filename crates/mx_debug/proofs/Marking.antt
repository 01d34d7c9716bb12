-- Marks of breakpoints.
use Rattle.std.proofs.Common.{◌≡◌, ◌≢◌, ◌∙◌, ℕ, ◌+◌, ◌<◌, ◌%◌, ◌⊎◌, inl, inr, Bool, true, false, List, [], ◌∷◌, length, get_or, take, refl, ap, sym, subst}
use Rattle.std.specs.Prelude.{◌||◌, ◌&&◌, ◌==◌, slice_set}
use Rattle.std.specs.List.{list_any}
use Rattle.std.proofs.lemmas.List.{take_more, get_or-set_same, get_or-set_other}
use Rattle.std.proofs.lemmas.List.Folds.{list_any-append}
use Rattle.std.proofs.lemmas.Bool.Decides.{eqb_tells}
use Rattle.mx_debug.specs.declared.points.Breakpoint.{Breakpoint}
use Rattle.mx_debug.specs.Points.{is_at, has_breakpoint}

-- each of these breakpoints of the slot has its mark
abbrev pub AreMarked : List Breakpoint → ℕ → List Bool → Type 0
AreMarked points slot marks = (address : ℕ) → has_breakpoint points slot address ≡ true → get_or marks (address % 1024) false ≡ true

both : (a b : Bool) → (a && b) ≡ true → (a ≡ true) × (b ≡ true)
both true b e = (refl, e)
both false b e = absurd cc

same_if : (a b : ℕ) → (a == b) ≡ true → a ≡ b
same_if a b e = by_case (eqb_tells a b)
  where
    by_case : (((a == b) ≡ true) × (a ≡ b)) ⊎ (((a == b) ≡ false) × (a ≢ b)) → a ≡ b
    by_case (inl p) = p.1
    by_case (inr p) = let f : true ≡ false = sym e ∙ p.0 in absurd cc

either : (a b : Bool) → (a || (b || false)) ≡ true → (a ≡ true) ⊎ (b ≡ true)
either true b e = inl refl
either false true e = inr refl
either false false e = absurd cc

one_more : (points : List Breakpoint) (i : ℕ) (d : Breakpoint) (slot address : ℕ) → i < length points → has_breakpoint (take (i + 1) points) slot address ≡ true
    → (has_breakpoint (take i points) slot address ≡ true) ⊎ (is_at slot address (get_or points i d) ≡ true)
one_more points i d slot address less h =
    let e : has_breakpoint (take (i + 1) points) slot address ≡ (has_breakpoint (take i points) slot address || (is_at slot address (get_or points i d) || false)) =
    ap (list_any (is_at slot address)) (take_more points i d less) ∙ list_any-append (is_at slot address) (take i points) (get_or points i d ∷ []) in
    either (has_breakpoint (take i points) slot address) (is_at slot address (get_or points i d)) (sym e ∙ h)

set_keeps : (marks : List Bool) (i j : ℕ) → i < length marks → get_or marks j false ≡ true → get_or (slice_set marks i true) j false ≡ true
set_keeps marks i j less h = by_case (eqb_tells j i)
  where
    by_case : (((j == i) ≡ true) × (j ≡ i)) ⊎ (((j == i) ≡ false) × (j ≢ i)) → get_or (slice_set marks i true) j false ≡ true
    by_case (inl p) = subst (λ (x : ℕ). get_or (slice_set marks i true) x false ≡ true) (sym p.1) (get_or-set_same marks i true false less)
    by_case (inr p) = get_or-set_other marks i j true false p.1 ∙ h

pub marked_more : (points : List Breakpoint) (i : ℕ) (d : Breakpoint) (slot : ℕ) (marks : List Bool) → i < length points → (get_or points i d).address % 1024 < length marks
    → AreMarked (take i points) slot marks → AreMarked (take (i + 1) points) slot (slice_set marks ((get_or points i d).address % 1024) true)
marked_more points i d slot marks less inside before address h = by_case (one_more points i d slot address less h)
  where
    p : Breakpoint
    p = get_or points i d

    by_case : (has_breakpoint (take i points) slot address ≡ true) ⊎ (is_at slot address p ≡ true) → get_or (slice_set marks (p.address % 1024) true) (address % 1024) false ≡ true
    by_case (inl e) = set_keeps marks (p.address % 1024) (address % 1024) inside (before address e)
    by_case (inr e) =
        let same : p.address ≡ address = same_if p.address address (both (p.slot == slot) (p.address == address) e).1 in
        subst (λ (x : ℕ). get_or (slice_set marks (p.address % 1024) true) (x % 1024) false ≡ true) same (get_or-set_same marks (p.address % 1024) true false inside)

pub marked_same : (points : List Breakpoint) (i : ℕ) (d : Breakpoint) (slot : ℕ) (marks : List Bool) → i < length points → (get_or points i d).slot ≢ slot
    → AreMarked (take i points) slot marks → AreMarked (take (i + 1) points) slot marks
marked_same points i d slot marks less other before address h = by_case (one_more points i d slot address less h)
  where
    by_case : (has_breakpoint (take i points) slot address ≡ true) ⊎ (is_at slot address (get_or points i d) ≡ true) → get_or marks (address % 1024) false ≡ true
    by_case (inl e) = before address e
    by_case (inr e) = absurd (other (same_if (get_or points i d).slot slot (both ((get_or points i d).slot == slot) ((get_or points i d).address == address) e).0))
