-- Who may go on by a line or an alarm: after 32 rounds there are no more.
use Rattle.std.proofs.Common.{◌≡◌, ◌∙◌, ℕ, zero, suc, ◌<◌, ◌≤◌, ◌&&◌, Bool, true, false, List, [], ◌∷◌, length, refl, sym, ap, get_or, inl, inr, ◌⊎◌, arith}
use Rattle.std.specs.List.{range_with_len}
use Rattle.std.proofs.lemmas.Bool.{and_from, false≢true, or_left, or_right}
use Rattle.std.proofs.lemmas.List.FromFn.{get_or-map-range_with_len, get_or-range_with_len, length-map-range_with_len, length-range_with_len}
use Rattle.std.proofs.lemmas.List.Folds.{list_any_at}
use Rattle.mx_why.specs.declared.seats.End.{End}
use Rattle.mx_why.specs.Waiting.{first_reached, is_among, is_next, is_reached, may_wake, next_reached, reached, reached_within, wakes_from_outside}

-- how many are true
trues : List Bool → ℕ
trues [] = 0
trues (true ∷ xs) = suc (trues xs)
trues (false ∷ xs) = trues xs

few : (xs : List Bool) → trues xs ≤ length xs
unfolding trues
few [] = omega arith
few (true ∷ xs) = let h = few xs in omega arith
few (false ∷ xs) = let h = few xs in omega arith

within : (xs : List Bool) (i : ℕ) → get_or xs i false ≡ true → i < length xs
within [] i h = absurd (false≢true h)
within (x ∷ xs) zero h = omega arith
within (x ∷ xs) (suc i) h = let k = within xs i h in omega arith

-- a list in which what was true still is is the same, or has more that are true
grows : (xs ys : List Bool) → length xs ≡ length ys → ((i : ℕ) → get_or xs i false ≡ true → get_or ys i false ≡ true) → (ys ≡ xs) ⊎ (suc (trues xs) ≤ trues ys)
unfolding trues
grows [] [] e h = inl refl
grows [] (y ∷ ys) e h = absurd (omega (arith, e))
grows (x ∷ xs) [] e h = absurd (omega (arith, e))
grows (true ∷ xs) (true ∷ ys) e h = elim (grows xs ys (omega (arith, e)) (λ i. h (suc i))) [
  | inl same ↦ inl (ap (λ (l : List Bool). true ∷ l) same)
  | inr more ↦ inr (omega (arith, more))
]
grows (true ∷ xs) (false ∷ ys) e h = absurd (false≢true (h zero refl))
grows (false ∷ xs) (true ∷ ys) e h = elim (grows xs ys (omega (arith, e)) (λ i. h (suc i))) [
  | inl same ↦ inr (omega (arith, ap trues same))
  | inr more ↦ inr (omega (arith, more))
]
grows (false ∷ xs) (false ∷ ys) e h = elim (grows xs ys (omega (arith, e)) (λ i. h (suc i))) [
  | inl same ↦ inl (ap (λ (l : List Bool). false ∷ l) same)
  | inr more ↦ inr more
]

first_long : (e : End) → length (first_reached e) ≡ 32
unfolding first_reached
first_long e = length-map-range_with_len (wakes_from_outside e) 0 32

next_long : (e : End) (r : List Bool) → length (next_reached e r) ≡ 32
unfolding next_reached
next_long e r = length-map-range_with_len (is_reached e r) 0 32

long : (n : ℕ) (e : End) → length (reached_within n e) ≡ 32
long zero e = first_long e
long (suc n) e = next_long e (reached_within n e)

next_at : (e : End) (r : List Bool) (i : ℕ) → i < 32 → is_among (next_reached e r) i ≡ is_reached e r i
unfolding next_reached
next_at e r i lt = get_or-map-range_with_len (is_reached e r) 0 32 i i false lt (omega arith)

next_keeps : (e : End) (r : List Bool) (i : ℕ) → length r ≡ 32 → is_among r i ≡ true → is_among (next_reached e r) i ≡ true
next_keeps e r i many h =
    let lt : i < 32 = omega (arith, many, within r i h) in
    next_at e r i lt ∙ or_left (is_among r i) (is_next e r i) h

-- one round more gives nobody more
abbrev Ended : End → List Bool → Type 0
Ended e r = next_reached e r ≡ r

more : (n : ℕ) (e : End) → Ended e (reached_within n e) ⊎ (suc (trues (reached_within n e)) ≤ trues (reached_within (suc n) e))
more n e =
    let r = reached_within n e in
    grows r (next_reached e r) (long n e ∙ sym (next_long e r)) (λ i h. next_keeps e r i (long n e) h)

rounds : (n : ℕ) (e : End) → Ended e (reached_within n e) ⊎ (n ≤ trues (reached_within n e))
rounds zero e = inr (omega arith)
rounds (suc n) e = elim (rounds n e) [
  | inl ended ↦ inl (ap (next_reached e) ended)
  | inr many ↦ elim (more n e) [
    | inl ended ↦ inl (ap (next_reached e) ended)
    | inr one ↦ inr (omega (arith, many, one))
  ]
]

ended_by : (n : ℕ) (e : End) → 32 ≤ n → Ended e (reached_within n e)
ended_by n e le = elim (rounds n e) [
  | inl ended ↦ ended
  | inr many ↦ elim (more n e) [
    | inl ended ↦ ended
    | inr one ↦ absurd (omega (arith, le, many, one, few (reached_within (suc n) e), long (suc n) e))
  ]
]

first_stays : (n : ℕ) (e : End) (i : ℕ) → is_among (first_reached e) i ≡ true → is_among (reached_within n e) i ≡ true
first_stays zero e i h = h
first_stays (suc n) e i h = next_keeps e (reached_within n e) i (long n e) (first_stays n e i h)

reached_ended : (e : End) → Ended e (reached e)
unfolding reached
reached_ended e = ended_by 32 e (omega arith)

-- WHOM A LINE OR AN ALARM makes go on
pub woken_reached : (e : End) (p : ℕ) → p < 32 → wakes_from_outside e p ≡ true → is_among (reached e) p ≡ true
unfolding reached first_reached
woken_reached e p lt h = first_stays 32 e p (get_or-map-range_with_len (wakes_from_outside e) 0 32 p p false lt (omega arith) ∙ h)

-- and whom one of these does
pub next_reached_too : (e : End) (c p : ℕ) → c < 32 → p < 32 → is_among (reached e) c ≡ true → may_wake e c p ≡ true → is_among (reached e) p ≡ true
next_reached_too e c p lc lp h wake =
    let r = reached e in
    let test = λ (from : ℕ). is_among r from && may_wake e from p in
    let at : get_or (range_with_len 0 32) c 0 ≡ c = get_or-range_with_len 0 32 c 0 lc ∙ omega arith in
    let room : c < length (range_with_len 0 32) = omega (arith, lc, length-range_with_len 0 32) in
    let found : is_next e r p ≡ true = list_any_at test (range_with_len 0 32) c 0 room (ap test at ∙ and_from _ _ h wake) in
    ap (λ (xs : List Bool). is_among xs p) (sym (reached_ended e)) ∙ next_at e r p lp ∙ or_right (is_among r p) (is_next e r p) found

-- nobody past the slots is one of these
pub reached_within_slots : (e : End) (p : ℕ) → is_among (reached e) p ≡ true → p < 32
unfolding reached
reached_within_slots e p h = omega (arith, long 32 e, within (reached_within 32 e) p h)
