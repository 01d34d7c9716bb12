-- A name up to its first zero byte.
use Rattle.std.proofs.Common.{◌≡◌, ◌≢◌, ◌∙◌, ℕ, suc, ◌+◌, ◌<◌, ◌≤◌, ◌⊎◌, inl, inr, Bool, true, false, List, [], ◌∷◌, ◌++◌, length, get_or, take, drop, ap, sym, arith, append_assoc, drop-cons}
use Rattle.std.specs.Prelude.{◌==◌, if◌then◌else◌}
use Rattle.std.proofs.lemmas.List.{take_more, append-nil, drop_all}
use Rattle.std.proofs.lemmas.Bool.Decides.{eqb_tells}
use Rattle.mx_dis.specs.Names.{before_zero}

-- as far as i no byte is zero
abbrev pub GoesOn : List ℕ → ℕ → Type 0
GoesOn t i = before_zero t ≡ take i t ++ before_zero (drop i t)

zero_if : (b : ℕ) (bs : List ℕ) (c : Bool) → (b == 0) ≡ c → before_zero (b ∷ bs) ≡ (if c then [] else b ∷ before_zero bs)
zero_if b bs c e = ap (λ (x : Bool). if x then [] else b ∷ before_zero bs) e

no_zero : (b : ℕ) (bs : List ℕ) → b ≢ 0 → before_zero (b ∷ bs) ≡ b ∷ before_zero bs
no_zero b bs h = by_case (eqb_tells b 0)
  where
    by_case : (((b == 0) ≡ true) × (b ≡ 0)) ⊎ (((b == 0) ≡ false) × (b ≢ 0)) → before_zero (b ∷ bs) ≡ b ∷ before_zero bs
    by_case (inl p) = absurd (h p.1)
    by_case (inr p) = zero_if b bs false p.0

a_zero : (b : ℕ) (bs : List ℕ) → b ≡ 0 → before_zero (b ∷ bs) ≡ []
a_zero b bs h = by_case (eqb_tells b 0)
  where
    by_case : (((b == 0) ≡ true) × (b ≡ 0)) ⊎ (((b == 0) ≡ false) × (b ≢ 0)) → before_zero (b ∷ bs) ≡ []
    by_case (inl p) = zero_if b bs true p.0
    by_case (inr p) = absurd (p.1 h)

drop_one : (t : List ℕ) (i : ℕ) → i < length t → drop i t ≡ get_or t i 0 ∷ drop (i + 1) t
drop_one t i less = let e : suc i ≡ i + 1 = omega arith in drop-cons t i 0 less ∙ ap (λ (k : ℕ). get_or t i 0 ∷ drop k t) e

pub goes_more : (t : List ℕ) (i : ℕ) → i < length t → get_or t i 0 ≢ 0 → GoesOn t i → GoesOn t (i + 1)
goes_more t i less some before =
    before
    ∙ ap (λ (x : List ℕ). take i t ++ before_zero x) (drop_one t i less)
    ∙ ap (λ (x : List ℕ). take i t ++ x) (no_zero (get_or t i 0) (drop (i + 1) t) some)
    ∙ sym (ap (λ (x : List ℕ). x ++ before_zero (drop (i + 1) t)) (take_more t i 0 less) ∙ append_assoc (take i t) (get_or t i 0 ∷ []) (before_zero (drop (i + 1) t)))

pub goes_to_end : (t : List ℕ) (i : ℕ) → length t ≤ i → GoesOn t i → take i t ≡ before_zero t
goes_to_end t i past before =
    sym (before ∙ ap (λ (x : List ℕ). take i t ++ before_zero x) (drop_all i t past) ∙ append-nil (take i t))

pub goes_to_zero : (t : List ℕ) (i : ℕ) → i < length t → get_or t i 0 ≡ 0 → GoesOn t i → take i t ≡ before_zero t
goes_to_zero t i less zero before =
    sym (before ∙ ap (λ (x : List ℕ). take i t ++ before_zero x) (drop_one t i less) ∙ ap (λ (x : List ℕ). take i t ++ x) (a_zero (get_or t i 0) (drop (i + 1) t) zero) ∙ append-nil (take i t))
