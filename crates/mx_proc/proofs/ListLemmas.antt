use Rattle.std.proofs.Common.{◌≡◌, ◌≢◌, ℕ, zero, suc, ◌+◌, ◌<◌, ◌≤◌, ◌==◌, ◌⊎◌, inl, inr, nat_lt, List, [], ◌∷◌, ◌++◌, length, get_or, slice_set, replicate, refl, sym, ap, ◌∙◌, arith, zero-add, get_or-set_same, get_or-set_other, subst}
use Rattle.std.proofs.lemmas.List.{get_or-replicate, length-replicate}
use Rattle.std.proofs.Math.ListN.{get_or-eq_default}
use Rattle.std.proofs.lemmas.Bool.{cases_eq, cases_lt, eq-eqb, ne_eqb, lt-ltb, le-ltb}
use Rattle.mx_proc.specs.Queues.{tally, times, without, list_at}

pub tally-same : (a b : ℕ) → a ≡ b → tally (a == b) ≡ 1
tally-same a b e = ap tally (eq-eqb a b e)

pub tally-other : (a b : ℕ) → a ≢ b → tally (a == b) ≡ 0
tally-other a b n = ap tally (ne_eqb a b n)

-- at the end counts as at the front
pub times-push : (s x : ℕ) (xs : List ℕ) → times s (xs ++ x ∷ []) ≡ tally (x == s) + times s xs
times-push s x [] = refl
times-push s x (y ∷ ys) = omega (arith, times-push s x ys)

pub times-without_same : (s : ℕ) (xs : List ℕ) → times s (without s xs) ≡ 0
times-without_same s [] = refl
times-without_same s (x ∷ xs) = elim (cases_eq x s) [
  | inl e ↦ rw (eq-eqb x s e) (times-without_same s xs)
  | inr n ↦ rw (ne_eqb x s n) (rw (ne_eqb x s n) (zero-add _ ∙ times-without_same s xs))
]

pub times-without_other : (s t : ℕ) (xs : List ℕ) → t ≢ s → times t (without s xs) ≡ times t xs
times-without_other s t [] n = refl
times-without_other s t (x ∷ xs) n = elim (cases_eq x s) [
  | inl e ↦ let m : x ≢ t = λ f. n (sym f ∙ e) in rw (eq-eqb x s e) (rw (ne_eqb x t m) (times-without_other s t xs n ∙ sym (zero-add _)))
  | inr m ↦ rw (ne_eqb x s m) (ap (λ k. tally (x == t) + k) (times-without_other s t xs n))
]

-- the sum of the counts below n
abbrev pub total : ℕ → List ℕ → ℕ
total zero xs = 0
total (suc n) xs = times n xs + total n xs

total-nil : (n : ℕ) → total n [] ≡ 0
total-nil zero = refl
total-nil (suc n) = zero-add _ ∙ total-nil n

total-out : (n x : ℕ) (xs : List ℕ) → n ≤ x → total n (x ∷ xs) ≡ total n xs
total-out zero x xs h = refl
total-out (suc n) x xs h = let m : x ≢ n = omega arith in omega (arith, tally-other x n m, total-out n x xs (omega arith))

total-in : (n x : ℕ) (xs : List ℕ) → x < n → total n (x ∷ xs) ≡ suc (total n xs)
total-in zero x xs h = absurd (omega arith)
total-in (suc n) x xs h = elim (cases_eq x n) [
  | inl e ↦ omega (arith, tally-same x n e, total-out n x xs (omega arith))
  | inr m ↦ omega (arith, tally-other x n m, total-in n x xs (omega arith))
]

pub length-total : (n : ℕ) (xs : List ℕ) → ((s : ℕ) → n ≤ s → times s xs ≡ 0) → length xs ≡ total n xs
length-total n [] h = sym (total-nil n)
length-total n (x ∷ xs) h =
    let rest : (s : ℕ) → n ≤ s → times s xs ≡ 0 = λ s b. let k = h s b in omega arith in
    elim (cases_lt x n) [
      | inl lt ↦ omega (arith, total-in n x xs lt, length-total n xs rest)
      | inr ge ↦ absurd (omega (arith, h x ge, tally-same x x refl))
    ]

pub total-le : (n : ℕ) (xs : List ℕ) → ((s : ℕ) → times s xs ≤ 1) → total n xs ≤ n
total-le zero xs h = omega arith
total-le (suc n) xs h = omega (arith, h n, total-le n xs h)

total-lt : (n s : ℕ) (xs : List ℕ) → ((s : ℕ) → times s xs ≤ 1) → s < n → times s xs ≡ 0 → total n xs < n
total-lt zero s xs h b z = absurd (omega arith)
total-lt (suc n) s xs h b z = elim (cases_eq s n) [
  | inl e ↦ let z' : times n xs ≡ 0 = subst (λ k. times k xs ≡ 0) e z in omega (arith, total-le n xs h)
  | inr m ↦ omega (arith, h n, total-lt n s xs h (omega arith) z)
]

-- slots below 32, each at most once, and one of them not at all, are fewer than 32
pub has_room : (xs : List ℕ) (s : ℕ) → ((t : ℕ) → times t xs ≤ tally (nat_lt t 32)) → s < 32 → times s xs ≡ 0 → length xs < 32
has_room xs s h b z =
    let above : (t : ℕ) → 32 ≤ t → times t xs ≡ 0 = λ t k. let g = h t in let e = le-ltb t 32 k in omega (arith, subst (λ b. times t xs ≤ tally b) e g) in
    let most : (t : ℕ) → times t xs ≤ 1 = λ t. elim (cases_lt t 32) [
      | inl lt ↦ subst (λ b. times t xs ≤ tally b) (lt-ltb t 32 lt) (h t)
      | inr ge ↦ omega (arith, above t ge)
    ] in
    omega (arith, length-total 32 xs above, total-lt 32 s xs most b z)

-- a list of lists with one replaced
pub list_at-cases : (lists : List (List ℕ)) (level at : ℕ) (xs : List ℕ) → level < length lists
    → ((at ≡ level) × (list_at (slice_set lists level xs) at ≡ xs)) ⊎ ((at ≢ level) × (list_at (slice_set lists level xs) at ≡ list_at lists at))
list_at-cases lists level at xs h = elim (cases_eq at level) [
  | inl e ↦ inl (e, subst (λ k. list_at (slice_set lists level xs) k ≡ xs) (sym e) (get_or-set_same lists level xs [] h))
  | inr n ↦ inr (n, get_or-set_other lists level at xs [] n)
]

-- inside a list the default plays no part
pub get_or-any : {X : Type 0} (xs : List X) (i : ℕ) (d e : X) → i < length xs → get_or xs i d ≡ get_or xs i e
get_or-any [] i d e h = absurd (omega arith)
get_or-any (x ∷ xs) zero d e h = refl
get_or-any (x ∷ xs) (suc i) d e h = get_or-any xs i d e (omega arith)

-- of equal items each is the item, and so is what comes after them
pub all_same : (X : Type 0) (n i : ℕ) (x : X) → get_or (replicate n x) i x ≡ x
all_same X n i x = elim (cases_lt i n) [
  | inl lt ↦ get_or-replicate n i x x lt
  | inr ge ↦ get_or-eq_default (replicate n x) x (subst (λ k. k ≤ i) (sym (length-replicate n x)) ge)
]
