-- Numbers within a limit, from numbers of 32 bits.
use Rattle.std.proofs.Common.{◌≡◌, ◌≢◌, ℕ, ◌<◌, ◌≤◌, ◌^◌, ◌⊎◌, inl, inr, Bool, true, false, cond, ◌&&◌, List, [], ◌∷◌, Some, None, refl, sym, ◌∙◌, ap, arith}
use Rattle.std.specs.Prelude.{nat_lt, nat_le}
use Rattle.std.specs.Bool.{Decides}
use Rattle.std.specs.List.{list_all}
use Rattle.std.proofs.lemmas.Bool.Decides.{leb_tells, Decides-ltb, Decides-and, Decides-by_and}
use Rattle.mx_text.specs.Bytes.{digit_value}
use Rattle.mx_text.specs.Numbers.{AreDigits, IsNumberInBase, value_from}
use Rattle.mx_text.specs.Fields.{has_bytes}
use Rattle.mx_text.specs.NumberFields.{spells_up_to, number_up_to}

no_true : false ≡ true → ⊥
no_true h = cc

le_decides : (a b : ℕ) → Decides (nat_le a b) (a ≤ b)
le_decides a b = by_case (leb_tells a b)
  where
    by_case : (((nat_le a b) ≡ true) × (a ≤ b)) ⊎ (((nat_le a b) ≡ false) × (b < a)) → Decides (nat_le a b) (a ≤ b)
    by_case (inl p) = (λ _. p.1, λ _. p.0)
    by_case (inr p) = (λ h. absurd (no_true (sym p.0 ∙ h)), λ h. absurd (omega (arith, h, p.1)))

some_decides : (w : List ℕ) → Decides (has_bytes w) (w ≢ [])
some_decides [] = (λ h. cc, λ h. absurd (h refl))
some_decides (b ∷ bs) = (λ _ e. cc, λ _. refl)

digits_decide : (base : ℕ) (w : List ℕ) → Decides (list_all (λ b. nat_lt (digit_value b) base) w) (AreDigits base w)
digits_decide base w = Decides-by_and (λ b. nat_lt (digit_value b) base) (λ b. digit_value b < base) (list_all (λ b. nat_lt (digit_value b) base)) (λ b. Decides-ltb (digit_value b) base) refl (λ _ _. refl) w

spells : (limit base : ℕ) (w : List ℕ) → Decides (spells_up_to limit base w) (((w ≢ []) × AreDigits base w) × (value_from base 0 w ≤ limit))
spells limit base w =
    Decides-and (has_bytes w && list_all (λ b. nat_lt (digit_value b) base) w) (nat_le (value_from base 0 w) limit)
    (Decides-and (has_bytes w) (list_all (λ b. nat_lt (digit_value b) base) w) (some_decides w) (digits_decide base w))
    (le_decides (value_from base 0 w) limit)

none_where : {A : Type 0} (r : Bool) (v : A) → (r ≡ true → ⊥) → cond r (Some v) None ≡ None
none_where true v h = absurd (h refl)
none_where false v h = refl

some_where : {A : Type 0} (r : Bool) (v : A) → r ≡ true → cond r (Some v) None ≡ Some v
some_where true v h = refl
some_where false v h = cc

-- what is no number of 32 bits is none up to a limit
pub no_number : (limit base : ℕ) (w : List ℕ) → limit < 2 ^ 32 → ((n : ℕ) → IsNumberInBase base w n → ⊥) → number_up_to limit base w ≡ None
no_number limit base w fits none =
    none_where (spells_up_to limit base w) (value_from base 0 w)
    (λ h. let p = (spells limit base w).0 h in none (value_from base 0 w) ((p.0).0, omega (arith, fits, p.1), (p.0).1, refl))

pub number_within : (limit base : ℕ) (w : List ℕ) (n : ℕ) → IsNumberInBase base w n → n ≤ limit → number_up_to limit base w ≡ Some n
number_within limit base w n is small =
    some_where (spells_up_to limit base w) (value_from base 0 w) ((spells limit base w).1 ((is.0, is.2), omega (arith, is.3, small)))
    ∙ ap Some (sym is.3)

pub number_beyond : (limit base : ℕ) (w : List ℕ) (n : ℕ) → IsNumberInBase base w n → limit < n → number_up_to limit base w ≡ None
number_beyond limit base w n is large =
    none_where (spells_up_to limit base w) (value_from base 0 w) (λ h. let p = (spells limit base w).0 h in omega (arith, is.3, large, p.1))
