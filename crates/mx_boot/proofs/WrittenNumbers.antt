-- The decimal text of a number is a word that spells this number.
use Rattle.std.proofs.Common.{◌≡◌, ℕ, suc, ◌+◌, ◌-◌, ◌*◌, ◌/◌, ◌%◌, ◌<◌, ◌≤◌, ◌^◌, ◌⊎◌, inl, inr, Bool, true, false, cond, not, ◌&&◌, ◌||◌, List, [], ◌∷◌, ◌++◌, Some, None, refl, ap, ◌∙◌, arith, zero-add}
use Rattle.std.specs.Prelude.{◌==◌, nat_lt, nat_le}
use Rattle.std.specs.Fmt.{decimal}
use Rattle.std.specs.List.{list_all}
use Rattle.std.proofs.lemmas.Fmt.{decimal_by_steps}
use Rattle.std.proofs.lemmas.Bool.{ne_eqb}
use Rattle.std.proofs.lemmas.Bool.Decides.{leb_tells}
use Rattle.std.proofs.lemmas.List.Folds.{list_all-append}
use Rattle.mx_text.specs.Bytes.{is_between, digit_value}
use Rattle.mx_text.specs.Numbers.{value_from}
use Rattle.mx_text.specs.Fields.{has_bytes}
use Rattle.mx_text.specs.NumberFields.{spells_up_to, number_up_to}
use Rattle.mx_boot.specs.Words.{is_word_byte_of_script, is_field_word}
use Rattle.mx_boot.proofs.WrittenWords.{both, and_true}

le_true : (a b : ℕ) → a ≤ b → nat_le a b ≡ true
le_true a b h = by_case (leb_tells a b)
  where
    by_case : (((nat_le a b) ≡ true) × (a ≤ b)) ⊎ (((nat_le a b) ≡ false) × (b < a)) → nat_le a b ≡ true
    by_case (inl p) = p.0
    by_case (inr p) = absurd (omega (arith, h, p.1))

chosen : {A : Type 0} (c : Bool) (a b : A) → c ≡ true → cond c a b ≡ a
chosen true a b h = refl
chosen false a b h = cc

neither_true : (a b : Bool) → a ≡ false → b ≡ false → not (a || b) ≡ true
neither_true false false h g = refl
neither_true false true h g = cc
neither_true true b h g = cc

digit_plain : (d : ℕ) → d < 10 → is_word_byte_of_script (48 + d) ≡ true
digit_plain d h = neither_true (48 + d == 32) (48 + d == 10) (ne_eqb (48 + d) 32 (λ e. omega (arith, e))) (ne_eqb (48 + d) 10 (λ e. omega (arith, e)))

digit_value-again : (d : ℕ) → d < 10 → digit_value (48 + d) ≡ d
digit_value-again d h =
    let e : is_between 48 57 (48 + d) ≡ true = and_true (nat_le 48 (48 + d)) (nat_le (48 + d) 57) (le_true 48 (48 + d) (omega arith)) (le_true (48 + d) 57 (omega (arith, h))) in
    chosen (is_between 48 57 (48 + d)) (48 + d - 48) _ e ∙ omega arith

bytes_before : (ds es : List ℕ) → has_bytes ds ≡ true → has_bytes (ds ++ es) ≡ true
bytes_before [] es h = cc
bytes_before (d ∷ ds) es h = refl

all_with : (p : ℕ → Bool) (ds : List ℕ) (d : ℕ) → list_all p ds ≡ true → p d ≡ true → list_all p (ds ++ d ∷ []) ≡ true
all_with p ds d h g = list_all-append p ds (d ∷ []) ∙ and_true (list_all p ds) (p d && true) h (and_true (p d) true g refl)

pub decimal_is_word : (n : ℕ) → n < 2 ^ 64 → is_field_word (decimal n) ≡ true
decimal_is_word = decimal_by_steps (λ n ds. is_field_word ds ≡ true)
    (λ n h. and_true true (is_word_byte_of_script (48 + n) && true) refl (and_true (is_word_byte_of_script (48 + n)) true (digit_plain n h) refl))
    (λ n ds ge h. let p = both (has_bytes ds) (list_all is_word_byte_of_script ds) h in
    and_true (has_bytes (ds ++ (48 + n % 10) ∷ [])) (list_all is_word_byte_of_script (ds ++ (48 + n % 10) ∷ []))
    (bytes_before ds ((48 + n % 10) ∷ []) p.0) (all_with is_word_byte_of_script ds (48 + n % 10) p.1 (digit_plain (n % 10) (omega arith))))

value_from-append : (ds es : List ℕ) (above : ℕ) → value_from 10 above (ds ++ es) ≡ value_from 10 (value_from 10 above ds) es
value_from-append [] es above = refl
value_from-append (d ∷ ds) es above = value_from-append ds es (above * 10 + digit_value d)

abbrev is_digit10 : ℕ → Bool
is_digit10 b = nat_lt (digit_value b) 10

digit_small : (d : ℕ) → d < 10 → is_digit10 (48 + d) ≡ true
digit_small d h = ap (λ v. nat_lt v 10) (digit_value-again d h) ∙ le_true (suc d) 10 (omega (arith, h))

pub record Spells (n : ℕ) (ds : List ℕ) : Type 0 where
  pub some : has_bytes ds ≡ true
  pub digits : list_all is_digit10 ds ≡ true
  pub value : value_from 10 0 ds ≡ n

spells : (n : ℕ) → n < 2 ^ 64 → Spells n (decimal n)
spells = decimal_by_steps Spells
    (λ n h. record {
      some = refl;
      digits = and_true (is_digit10 (48 + n)) true (digit_small n h) refl;
      value = zero-add (digit_value (48 + n)) ∙ digit_value-again n h;
    })
    (λ n ds ge h. record {
      some = bytes_before ds ((48 + n % 10) ∷ []) h.some;
      digits = all_with is_digit10 ds (48 + n % 10) h.digits (digit_small (n % 10) (omega arith));
      value = value_from-append ds ((48 + n % 10) ∷ []) 0
          ∙ ap (λ v. v * 10 + digit_value (48 + n % 10)) h.value
          ∙ ap (λ v. n / 10 * 10 + v) (digit_value-again (n % 10) (omega arith))
          ∙ omega arith;
    })

pub number_of_decimal : (limit n : ℕ) → n ≤ limit → n < 2 ^ 64 → number_up_to limit 10 (decimal n) ≡ Some n
number_of_decimal limit n small fits =
    let s = spells n fits in
    let within : nat_le (value_from 10 0 (decimal n)) limit ≡ true = ap (λ v. nat_le v limit) s.value ∙ le_true n limit small in
    chosen (spells_up_to limit 10 (decimal n)) (Some (value_from 10 0 (decimal n))) None
    (and_true (has_bytes (decimal n) && list_all is_digit10 (decimal n)) (nat_le (value_from 10 0 (decimal n)) limit)
    (and_true (has_bytes (decimal n)) (list_all is_digit10 (decimal n)) s.some s.digits) within)
    ∙ ap Some s.value
