-- The first number from a on that passes a test, of n in a row, or else d after all of them; and runs of numbers that begin where
-- a test passes: each number from 0 to n is in just one of them.
use Rattle.std.proofs.Common.{◌≡◌, ℕ, zero, suc, ◌+◌, ◌-◌, ◌<◌, ◌≤◌, Bool, true, false, refl, subst, inl, inr, arith}
use Rattle.std.specs.Prelude.{find, unwrap_or}
use Rattle.std.specs.List.{range_with_len}
use Rattle.std.proofs.lemmas.Bool.{cases_lt, cases_order, both_ways}

abbrev pub next : (ℕ → Bool) → ℕ → ℕ → ℕ → ℕ
next p a n d = unwrap_or (find p (range_with_len a n)) d

pub next_within : (p : ℕ → Bool) (a n d : ℕ) → a + n ≤ d → (a ≤ next p a n d) × (next p a n d ≤ d)
next_within p a zero d h = (omega arith, omega arith)
next_within p a (suc n) d h = by (p a) refl (next_within p (a + 1) n d (omega arith))
  where
    by : (t : Bool) → p a ≡ t → (a + 1 ≤ next p (a + 1) n d) × (next p (a + 1) n d ≤ d)
        → (a ≤ next p a (suc n) d) × (next p a (suc n) d ≤ d)
    by true e rest = rw e (omega arith, omega arith)
    by false e rest = rw e (omega (arith, rest.0), rest.1)

-- none before it passes
pub none_before : (p : ℕ → Bool) (a n d k : ℕ) → a ≤ k → k < a + n → k < next p a n d → p k ≡ false
none_before p a zero d k low high before = absurd (omega arith)
none_before p a (suc n) d k low high before = by (p a) refl (λ l h b. none_before p (a + 1) n d k l h b)
  where
    by : (t : Bool) → p a ≡ t → (a + 1 ≤ k → k < a + 1 + n → k < next p (a + 1) n d → p k ≡ false) → p k ≡ false
    by true e rest = let here : k < a = rw e at before in absurd (omega arith)
    by false e rest =
        elim (cases_lt a k) [
          | inl above ↦ let later : k < next p (a + 1) n d = rw e at before in rest (omega arith) (omega arith) later
          | inr below ↦ let same : a ≡ k = omega arith in subst (λ (i : ℕ). p i ≡ false) same e
        ]

-- if none below m passes, it is m or above
pub not_before : (p : ℕ → Bool) (a n d m : ℕ) → a + n ≤ d → m ≤ a + n → ((k : ℕ) → a ≤ k → k < m → p k ≡ false) → m ≤ next p a n d
not_before p a zero d m fits high none = omega arith
not_before p a (suc n) d m fits high none = by (p a) refl (λ h. not_before p (a + 1) n d m (omega arith) h (λ k low under. none k (omega arith) under))
  where
    by : (t : Bool) → p a ≡ t → (m ≤ a + 1 + n → m ≤ next p (a + 1) n d) → m ≤ next p a (suc n) d
    by true e rest =
        rw e (elim (cases_lt a m) [
          | inl under ↦ absurd (both_ways (p a) (none a (omega arith) under) e)
          | inr over ↦ over
        ])
    by false e rest = rw e (rest (omega arith))

-- ---- the last number up to c that passes

abbrev pub last_if : Bool → ℕ → ℕ → ℕ
last_if true c rest = suc c
last_if false c rest = rest

pub last : (ℕ → Bool) → ℕ → ℕ
last p zero = 0
last p (suc c) = last_if (p (suc c)) c (last p c)

pub last_within : (p : ℕ → Bool) (c : ℕ) → last p c ≤ c
unfolding last
last_within p zero = omega arith
last_within p (suc c) = by (p (suc c)) refl (last_within p c)
  where
    by : (t : Bool) → p (suc c) ≡ t → last p c ≤ c → last p (suc c) ≤ suc c
    by true e rest = rw e (omega arith)
    by false e rest = rw e (omega arith)

pub last_passes : (p : ℕ → Bool) (c : ℕ) → p 0 ≡ true → p (last p c) ≡ true
unfolding last
last_passes p zero first = first
last_passes p (suc c) first = by (p (suc c)) refl (last_passes p c first)
  where
    by : (t : Bool) → p (suc c) ≡ t → p (last p c) ≡ true → p (last p (suc c)) ≡ true
    by true e rest = rw e e
    by false e rest = rw e rest

pub none_after_last : (p : ℕ → Bool) (c k : ℕ) → last p c < k → k ≤ c → p k ≡ false
unfolding last
none_after_last p zero k low high = absurd (omega arith)
none_after_last p (suc c) k low high = by (p (suc c)) refl (none_after_last p c k)
  where
    by : (t : Bool) → p (suc c) ≡ t → (last p c < k → k ≤ c → p k ≡ false) → p k ≡ false
    by true e rest = let over : suc c < k = rw e at low in absurd (omega arith)
    by false e rest =
        let after : last p c < k = rw e at low in
        elim (cases_lt c k) [
          | inl above ↦ let same : suc c ≡ k = omega arith in subst (λ (i : ℕ). p i ≡ false) same e
          | inr below ↦ rest after below
        ]

-- ---- runs

-- where the run ends that begins at b
abbrev pub end_of : (ℕ → Bool) → ℕ → ℕ → ℕ
end_of p n b = next p (b + 1) (n + 1 - (b + 1)) (n + 1)

pub last_covers : (p : ℕ → Bool) (n c : ℕ) → c ≤ n → c < end_of p n (last p c)
last_covers p n c high =
    let low : last p c ≤ c = last_within p c in
    let over : c + 1 ≤ end_of p n (last p c) =
    not_before p (last p c + 1) (n + 1 - (last p c + 1)) (n + 1) (c + 1) (omega arith) (omega arith)
    (λ k above under. none_after_last p c k (omega arith) (omega arith)) in
    omega arith

pub only_last : (p : ℕ → Bool) (n c d : ℕ) → p 0 ≡ true → c ≤ n → p d ≡ true → d ≤ c → c < end_of p n d → d ≡ last p c
only_last p n c d first high here low under =
    let within : last p c ≤ c = last_within p c in
    elim (cases_order d (last p c)) [
      | inl same ↦ same
      | inr other ↦ elim other [
        | inl before ↦
            let none : p (last p c) ≡ false = none_before p (d + 1) (n + 1 - (d + 1)) (n + 1) (last p c) (omega arith) (omega arith) (omega arith) in
            absurd (both_ways (p (last p c)) none (last_passes p c first))
        | inr after ↦ absurd (both_ways (p d) (none_after_last p c d after low) here)
      ]
    ]
