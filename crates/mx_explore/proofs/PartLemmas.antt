-- The schedules of all parts are all schedules.
use Rattle.std.proofs.Common.{◌≡◌, ◌∙◌, ◌≤◌, ◌<◌, ◌+◌, ◌-◌, ◌%◌, ℕ, zero, suc, true, false, List, [], ◌∷◌, length, inl, inr, refl, ap, sym, arith, true≢false}
use Rattle.std.specs.Prelude.{All}
use Rattle.std.specs.List.{AllByRecursion, IsDistinct, flat_map, range_with_len}
use Rattle.std.proofs.Math.Nat.{mod-lt, mod-one}
use Rattle.std.proofs.lemmas.Bool.{cases_Bool, eq-eqb, eqb-true}
use Rattle.std.proofs.lemmas.List.Elements.{All-from_recursion, recursion_from_All}
use Rattle.mx_explore.specs.declared.passing.Departure.{Departure}
use Rattle.mx_explore.specs.Passing.{IsSchedule, Setting}
use Rattle.mx_explore.specs.Schedules.{AreAll, is_in_part, is_same, part_at, whole}
use Rattle.mx_explore.proofs.ScheduleLemmas.{both_true}
use Rattle.mx_explore.proofs.TreeLemmas.{Lists, cross, distinct_append, has_flat, has_range, rec_append, rec_weaker}

-- every schedule is in the whole
in_whole : (ds : List Departure) → is_in_part whole ds ≡ true
in_whole [] = refl
in_whole (d ∷ ds) = eq-eqb (d.at % 1) 0 (mod-one d.at)

module _ (n : ℕ) where
  -- the part that a schedule is in
  abbrev home : List Departure → ℕ
  home [] = 0
  home (d ∷ ds) = d.at % n

  home_within : 0 < n → (ds : List Departure) → home ds < n
  home_within some [] = some
  home_within some (d ∷ ds) = mod-lt d.at some

  parts_are : (i : ℕ) → i < n → i + 1 + (n - (i + 1)) ≡ n
  parts_are i lt = omega (arith, lt)

  in_home : (ds : List Departure) → home ds < n → is_in_part (part_at n (home ds)) ds ≡ true
  in_home [] lt = refl
  in_home (d ∷ ds) lt = eq-eqb _ _ (ap (λ m. d.at % m) (parts_are (d.at % n) lt))

  home_is : (i : ℕ) (ds : List Departure) → i < n → is_in_part (part_at n i) ds ≡ true → home ds ≡ i
  home_is i [] lt e = sym (eqb-true i 0 e)
  home_is i (d ∷ ds) lt e = ap (λ m. d.at % m) (sym (parts_are i lt)) ∙ eqb-true (d.at % (i + 1 + (n - (i + 1)))) i e

  same_home : (xs ys : List Departure) → is_same xs ys ≡ true → home xs ≡ home ys
  same_home [] [] e = refl
  same_home (d ∷ ds) (g ∷ gs) e = ap (λ a. a % n) (eqb-true d.at g.at (both_true _ _ (both_true _ _ e).0).0)
  same_home [] (g ∷ gs) e = absurd (true≢false (sym e))
  same_home (d ∷ ds) [] e = absurd (true≢false (sym e))

  -- lists of two parts aren't the same
  apart : (i j : ℕ) (xs ys : List Departure) → i < j → j < n → is_in_part (part_at n i) xs ≡ true → is_in_part (part_at n j) ys ≡ true → is_same xs ys ≡ false
  apart i j xs ys lt within x y = elim (cases_Bool (is_same xs ys)) [
    | inl same ↦
        (let e : i ≡ j = sym (home_is i xs (omega (arith, lt, within)) x) ∙ same_home xs ys same ∙ home_is j ys within y in
        absurd (omega (arith, lt, e)))
    | inr other ↦ other
  ]

  module _ (t : Setting) (k : ℕ) (parts : ℕ → Lists) (each : (i : ℕ) → i < n → AreAll t k (part_at n i) (parts i)) where
    -- what holds of the lists of each part holds of those of all parts from this one on
    all_of : (P : ℕ → List Departure → Type 0) (Q : List Departure → Type 0) → ((i : ℕ) → i < n → AllByRecursion (P i) (parts i)) → (a : ℕ) → ((i : ℕ) (ds : List Departure) → a ≤ i → i < n → P i ds → Q ds)
        → (m : ℕ) → a + m ≡ n → AllByRecursion Q (flat_map parts (range_with_len a m))
    all_of P Q those a so zero e = tt
    all_of P Q those a so (suc m) e =
        let lt : a < n = omega (arith, e) in
        rec_append Q (parts a) (flat_map parts (range_with_len (a + 1) m))
        (rec_weaker (P a) Q (λ ds p. so a ds (omega arith) lt p) (parts a) (those a lt))
        (all_of P Q those (a + 1) (λ i ds le within p. so i ds (omega (arith, le)) within p) m (omega (arith, e)))

    abbrev InPart : ℕ → List Departure → Type 0
    InPart i ds = is_in_part (part_at n i) ds ≡ true

    in_parts : (i : ℕ) → i < n → AllByRecursion (InPart i) (parts i)
    in_parts i lt = recursion_from_All (InPart i) (parts i) (each i lt).part

    -- in a later part
    abbrev Later : ℕ → List Departure → Type 0
    Later a ds = (i : ℕ) × (a < i) × (i < n) × InPart i ds

    once_from : (a m : ℕ) → a + m ≡ n → IsDistinct is_same (flat_map parts (range_with_len a m))
    unfolding IsDistinct
    once_from a zero e = tt
    once_from a (suc m) e =
        let lt : a < n = omega (arith, e) in
        let rest = flat_map parts (range_with_len (a + 1) m) in
        let later : AllByRecursion (Later a) rest = all_of InPart (Later a) in_parts (a + 1) (λ i ds le within p. (i, omega (arith, le), within, p)) m (omega (arith, e)) in
        distinct_append is_same (parts a) rest (each a lt).once (once_from (a + 1) m (omega (arith, e)))
        (cross is_same (InPart a) (Later a) (λ x y p q. apart a q.0 x y q.1 q.2 p q.3) (parts a) rest (in_parts a lt) later)

    abbrev joined : Lists
    joined = flat_map parts (range_with_len 0 n)

    from_parts : (Q : List Departure → Type 0) → ((i : ℕ) → i < n → All Q (parts i)) → All Q joined
    from_parts Q those =
        All-from_recursion Q joined (all_of (λ i. Q) Q (λ i lt. recursion_from_All Q (parts i) (those i lt)) 0 (λ i ds le lt q. q) n (omega arith))

    joins : 0 < n → AreAll t k whole joined
    joins some = record {
      met = from_parts (IsSchedule t) (λ i lt. (each i lt).met);
      few = from_parts (λ ds. length ds ≤ k) (λ i lt. (each i lt).few);
      part = from_parts (λ ds. is_in_part whole ds ≡ true) (λ i lt. All-from_recursion (λ ds. is_in_part whole ds ≡ true) (parts i) (rec_weaker (InPart i) (λ ds. is_in_part whole ds ≡ true) (λ ds p. in_whole ds) (parts i) (in_parts i lt)));
      every = λ ds s few part.
          let lt = home_within some ds in
          has_flat parts (range_with_len 0 n) (home ds) ds (has_range 0 n (home ds) (omega arith) (omega (arith, lt))) ((each (home ds) lt).every ds s few (in_home ds lt));
      once = once_from 0 n (omega arith);
    }

-- ALL PARTS JOIN
pub all_join : (t : Setting) (k n : ℕ) (parts : ℕ → Lists) → 0 < n → ((i : ℕ) → i < n → AreAll t k (part_at n i) (parts i)) → AreAll t k whole (flat_map parts (range_with_len 0 n))
all_join t k n parts some each = joins n t k parts each some
