-- Bodies, checksums and digits.
use Rattle.std.proofs.Common.{◌≡◌, ◌≢◌, ◌∙◌, ◌++◌, ◌+◌, ◌*◌, ◌/◌, ◌%◌, ◌<◌, ◌≤◌, inl, inr, ℕ, zero, suc, Bool, true, false, cond, List, [], ◌∷◌, Option, Some, None, refl, sym, ap, subst, arith}
use Rattle.std.specs.Prelude.{slice_index, ◌==◌, ◌&&◌, nat_lt, nat_le}
use Rattle.std.specs.List.{sum}
use Rattle.std.proofs.lemmas.Bool.{cases_eq, ne_eqb, lt-ltb, le-leb}
use Rattle.std.proofs.lemmas.List.Sums.{sum_by-append, sum_by-cons}
use Rattle.hex.specs.Hex.{lower_digits, encode_lower, encode_with}
use Rattle.mx_text.specs.Bytes.{digit_value}
use Rattle.mx_text.specs.NumberFields.{number_up_to}
use Rattle.mx_rsp.specs.Packets.{escaped, body_of, checksum, payload_after, payload_of}

pub passed : {A : Type 0} (c : Bool) (a b : A) → c ≡ false → cond c a b ≡ b
passed true a b h = cc
passed false a b h = refl

pub taken : {A : Type 0} (c : Bool) (a b : A) → c ≡ true → cond c a b ≡ a
taken true a b h = refl
taken false a b h = cc

pub and_true : (p q : Bool) → p ≡ true → q ≡ true → (p && q) ≡ true
and_true true q h k = k
and_true false q h k = cc

-- neither # nor $
abbrev pub IsPlain : ℕ → Type 0
IsPlain b = (b ≢ 35) × (b ≢ 36)

abbrev pub ArePlain : List ℕ → Type 0
ArePlain [] = Unit {0}
ArePlain (b ∷ bs) = IsPlain b × ArePlain bs

pub plain_append : (xs ys : List ℕ) → ArePlain xs → ArePlain ys → ArePlain (xs ++ ys)
plain_append [] ys p q = q
plain_append (x ∷ xs) ys p q = (p.0, plain_append xs ys p.1 q)

pub plain_front : (xs ys : List ℕ) → ArePlain (xs ++ ys) → ArePlain xs
plain_front [] ys p = tt
plain_front (x ∷ xs) ys p = (p.0, plain_front xs ys p.1)

pub plain_back : (xs ys : List ℕ) → ArePlain (xs ++ ys) → ArePlain ys
plain_back [] ys p = p
plain_back (x ∷ xs) ys p = plain_back xs ys p.1

-- ---- a body

-- one byte of a payload stands in a body, and is read from it
module _ (rest : List ℕ) where
  Stands : ℕ → Type 0
  Stands b = (payload_after false (escaped b ++ rest) ≡ b ∷ payload_after false rest) × (ArePlain rest → ArePlain (escaped b ++ rest))

  unmarked : (b : ℕ) → b ≢ 35 → b ≢ 36 → b ≢ 42 → b ≢ 125 → Stands b
  unfolding Stands
  unmarked b h d s e = rw (ne_eqb b 35 h, ne_eqb b 36 d, ne_eqb b 42 s, ne_eqb b 125 e) (passed (b == 125) (payload_after true rest) (b ∷ payload_after false rest) (ne_eqb b 125 e), λ p. ((h, d), p))

  stands : (b : ℕ) → Stands b
  unfolding Stands
  stands b = elim (cases_eq b 35) [
    | inl e ↦ subst Stands (sym e) (refl, λ p. (((λ q. omega (arith, q)), (λ q. omega (arith, q))), (((λ q. omega (arith, q)), (λ q. omega (arith, q))), p)))
    | inr h ↦ elim (cases_eq b 36) [
      | inl e ↦ subst Stands (sym e) (refl, λ p. (((λ q. omega (arith, q)), (λ q. omega (arith, q))), (((λ q. omega (arith, q)), (λ q. omega (arith, q))), p)))
      | inr d ↦ elim (cases_eq b 42) [
        | inl e ↦ subst Stands (sym e) (refl, λ p. (((λ q. omega (arith, q)), (λ q. omega (arith, q))), (((λ q. omega (arith, q)), (λ q. omega (arith, q))), p)))
        | inr s ↦ elim (cases_eq b 125) [
          | inl e ↦ subst Stands (sym e) (refl, λ p. (((λ q. omega (arith, q)), (λ q. omega (arith, q))), (((λ q. omega (arith, q)), (λ q. omega (arith, q))), p)))
          | inr n ↦ unmarked b h d s n
        ]
      ]
    ]
  ]

pub read_again : (payload : List ℕ) → payload_of (body_of payload) ≡ payload
unfolding Stands
read_again [] = refl
read_again (b ∷ payload) = (stands (body_of payload) b).0 ∙ ap (λ (xs : List ℕ). b ∷ xs) (read_again payload)

pub body_plain : (payload : List ℕ) → ArePlain (body_of payload)
unfolding Stands
body_plain [] = tt
body_plain (b ∷ payload) = (stands (body_of payload) b).1 (body_plain payload)

-- ---- a checksum

sum_apart : (front back : List ℕ) (a : ℕ) → sum (front ++ a ∷ back) ≡ (sum front + sum back) + a
sum_apart front back a =
    let e : sum (front ++ a ∷ back) ≡ sum front + sum (a ∷ back) = sum_by-append (λ x. x) front (a ∷ back) in
    let f : sum (a ∷ back) ≡ a + sum back = sum_by-cons (λ x. x) a back in
    omega (arith, e, f)

-- one byte is another, and the checksum is
pub other_sum : (front back : List ℕ) (a b : ℕ) → a < 256 → b < 256 → a ≢ b → checksum (front ++ b ∷ back) ≢ checksum (front ++ a ∷ back)
other_sum front back a b small less other e =
    apart (sum front + sum back) a b small less other
    (ap (λ n. n % 256) (sym (sum_apart front back b)) ∙ e ∙ ap (λ n. n % 256) (sum_apart front back a))
  where
    apart : (s a b : ℕ) → a < 256 → b < 256 → a ≢ b → (s + b) % 256 ≡ (s + a) % 256 → ⊥
    apart s a b small less other e = omega (arith, small, less, other, e)

-- ---- two digits

-- a digit is read as its value, and is no $
IsDigitOf : ℕ → ℕ → Type 0
IsDigitOf c d = (digit_value c ≡ d) × (c ≢ 36)

digit_at : (d : ℕ) → d < 16 → IsDigitOf (slice_index lower_digits d) d
unfolding IsDigitOf
digit_at zero h = (refl, λ q. omega (arith, q))
digit_at (suc zero) h = (refl, λ q. omega (arith, q))
digit_at (suc (suc zero)) h = (refl, λ q. omega (arith, q))
digit_at (suc (suc (suc zero))) h = (refl, λ q. omega (arith, q))
digit_at (suc (suc (suc (suc zero)))) h = (refl, λ q. omega (arith, q))
digit_at (suc (suc (suc (suc (suc zero))))) h = (refl, λ q. omega (arith, q))
digit_at (suc (suc (suc (suc (suc (suc zero)))))) h = (refl, λ q. omega (arith, q))
digit_at (suc (suc (suc (suc (suc (suc (suc zero))))))) h = (refl, λ q. omega (arith, q))
digit_at (suc (suc (suc (suc (suc (suc (suc (suc zero)))))))) h = (refl, λ q. omega (arith, q))
digit_at (suc (suc (suc (suc (suc (suc (suc (suc (suc zero))))))))) h = (refl, λ q. omega (arith, q))
digit_at (suc (suc (suc (suc (suc (suc (suc (suc (suc (suc zero)))))))))) h = (refl, λ q. omega (arith, q))
digit_at (suc (suc (suc (suc (suc (suc (suc (suc (suc (suc (suc zero))))))))))) h = (refl, λ q. omega (arith, q))
digit_at (suc (suc (suc (suc (suc (suc (suc (suc (suc (suc (suc (suc zero)))))))))))) h = (refl, λ q. omega (arith, q))
digit_at (suc (suc (suc (suc (suc (suc (suc (suc (suc (suc (suc (suc (suc zero))))))))))))) h = (refl, λ q. omega (arith, q))
digit_at (suc (suc (suc (suc (suc (suc (suc (suc (suc (suc (suc (suc (suc (suc zero)))))))))))))) h = (refl, λ q. omega (arith, q))
digit_at (suc (suc (suc (suc (suc (suc (suc (suc (suc (suc (suc (suc (suc (suc (suc zero))))))))))))))) h = (refl, λ q. omega (arith, q))
digit_at (suc (suc (suc (suc (suc (suc (suc (suc (suc (suc (suc (suc (suc (suc (suc (suc d)))))))))))))))) h = absurd (omega (arith, h))

-- what two bytes spell, by their values as digits
abbrev read_by : ℕ → ℕ → Option ℕ
read_by x y = cond ((true && (nat_lt x 16 && (nat_lt y 16 && true))) && nat_le ((0 * 16 + x) * 16 + y) 255) (Some ((0 * 16 + x) * 16 + y)) None

read_within : (x y : ℕ) → x < 16 → y < 16 → read_by x y ≡ Some (x * 16 + y)
read_within x y h l =
    let e : (0 * 16 + x) * 16 + y ≡ x * 16 + y = omega arith in
    let small : (0 * 16 + x) * 16 + y ≤ 255 = omega (arith, h, l) in
    let digits : (nat_lt x 16 && (nat_lt y 16 && true)) ≡ true = and_true (nat_lt x 16) (nat_lt y 16 && true) (lt-ltb x 16 h) (and_true (nat_lt y 16) true (lt-ltb y 16 l) refl) in
    let all : ((true && (nat_lt x 16 && (nat_lt y 16 && true))) && nat_le ((0 * 16 + x) * 16 + y) 255) ≡ true =
    and_true (nat_lt x 16 && (nat_lt y 16 && true)) (nat_le ((0 * 16 + x) * 16 + y) 255) digits (le-leb ((0 * 16 + x) * 16 + y) 255 small) in
    taken ((true && (nat_lt x 16 && (nat_lt y 16 && true))) && nat_le ((0 * 16 + x) * 16 + y) 255) (Some ((0 * 16 + x) * 16 + y)) None all ∙ ap Some e

read_digits : (h l a b : ℕ) → digit_value h ≡ a → digit_value l ≡ b → a < 16 → b < 16 → number_up_to 255 16 (h ∷ l ∷ []) ≡ Some (a * 16 + b)
read_digits h l a b p q small less = ap (λ x. read_by x (digit_value l)) p ∙ ap (read_by a) q ∙ read_within a b small less

-- a byte's digits are read as the byte, and are no $
pub digits_of_byte : (s : ℕ) → s < 256 → (high : ℕ) × (low : ℕ) × (encode_lower (s ∷ []) ≡ high ∷ low ∷ []) × (high ≢ 36) × (low ≢ 36) × (number_up_to 255 16 (high ∷ low ∷ []) ≡ Some s)
unfolding encode_with IsDigitOf
digits_of_byte s small =
    let high = slice_index lower_digits (s / 16) in
    let low = slice_index lower_digits (s % 16) in
    let h : s / 16 < 16 = omega (arith, small) in
    let l : s % 16 < 16 = omega arith in
    let p = digit_at (s / 16) h in
    let q = digit_at (s % 16) l in
    let whole : (s / 16) * 16 + s % 16 ≡ s = omega arith in
    (high, low, refl, p.1, q.1, read_digits high low (s / 16) (s % 16) p.0 q.0 h l ∙ ap Some whole)
