-- Flags of whole sums and differences, from dwords of the same sign.
use Rattle.std.proofs.Common.{ℕ, ◌≡◌, ◌+◌, ◌-◌, ◌%◌, ◌^◌, ◌≤◌, ◌<◌, ◌==◌, refl, sym, arith, Bool, true, false, inl, inr, nat_le, nat_lt, int_lt, pos, ◌+ℤ◌, ◌-ℤ◌, ◌≤ℤ◌, neg_ℤ, ℤ}
use Rattle.std.proofs.lemmas.Bool.{cases_lt}
use Rattle.mx_word.specs.Word.{width, is_negative, signed, modulo, difference_of, leaves_unsigned, leaves_signed, differ}
use Rattle.mx_word.specs.declared.size.Size.{Size}
use Rattle.mx_word.specs.declared.size.Size.TheVariants.{Byte, Word, Dword}
use Rattle.mx_flags.specs.Last.{extended}
use Rattle.mx_flags.proofs.Extended.{extended_negative, extended_signed, extended_below, extended_carry, extended_digit}

-- ---- INC and DEC

pub increment_digit : (x : ℕ) → (x % 16 == 15) ≡ leaves_unsigned 4 (pos (x % 16) +ℤ pos (1 % 16) +ℤ pos 0)
increment_digit x = grind (arith)

pub decrement_digit : (x : ℕ) → (x % 16 == 0) ≡ leaves_unsigned 4 (pos (x % 16) -ℤ pos (1 % 16) -ℤ pos 0)
decrement_digit x = grind (arith)

pub increment_leaves : (s : Size) (x : ℕ) → x < 2 ^ width s → (x + 1 == 2 ^ (width s - 1)) ≡ leaves_signed (width s) (signed (width s) x +ℤ signed (width s) 1 +ℤ pos 0)
increment_leaves Byte x small = grind (arith)
increment_leaves Word x small = grind (arith)
increment_leaves Dword x small = grind (arith)

pub decrement_leaves : (s : Size) (x : ℕ) → x < 2 ^ width s → (x == 2 ^ (width s - 1)) ≡ leaves_signed (width s) (signed (width s) x -ℤ signed (width s) 1 -ℤ pos 0)
decrement_leaves Byte x small = grind (arith)
decrement_leaves Word x small = grind (arith)
decrement_leaves Dword x small = grind (arith)

-- ---- a whole number that words leave

plus_none : (z : ℤ) → z +ℤ pos 0 ≡ z
plus_none z = grind (arith)

less_none : (z : ℤ) → z -ℤ pos 0 ≡ z
less_none z = grind (arith)

-- ---- sums

carries : (w x y : ℕ) → nat_le (2 ^ w) (x + y) ≡ leaves_unsigned w (pos x +ℤ pos y +ℤ pos 0)
carries w x y = grind (arith)

pub sum_carry : (s : Size) (x y : ℕ) → x < 2 ^ width s → y < 2 ^ width s → nat_le (2 ^ 32) (extended (width s) x + extended (width s) y) ≡ leaves_unsigned (width s) (pos x +ℤ pos y +ℤ pos 0)
sum_carry s x y left right = rw (extended_carry s x y left right) (carries (width s) x y)

pub sum_digit : (s : Size) (x y : ℕ) → x < 2 ^ width s → y < 2 ^ width s → nat_le 16 (extended (width s) x % 16 + extended (width s) y % 16) ≡ leaves_unsigned 4 (pos (x % 16) +ℤ pos (y % 16) +ℤ pos 0)
sum_digit s x y left right = rw (extended_digit s x left, extended_digit s y right) (grind (arith))

pub sum_leaves : (s : Size) (x y : ℕ) → x < 2 ^ width s → y < 2 ^ width s → leaves_signed (width s) (signed 32 (extended (width s) x) +ℤ signed 32 (extended (width s) y)) ≡ leaves_signed (width s) (signed (width s) x +ℤ signed (width s) y +ℤ pos 0)
sum_leaves s x y left right = rw (extended_signed s x left, extended_signed s y right, plus_none (signed (width s) x +ℤ signed (width s) y)) refl

-- ---- differences

borrows : (w x y : ℕ) → x < 2 ^ w → nat_lt x y ≡ leaves_unsigned w (pos x -ℤ pos y -ℤ pos 0)
borrows w x y left = grind (arith)

pub difference_carry : (s : Size) (x y : ℕ) → x < 2 ^ width s → y < 2 ^ width s → nat_lt (extended (width s) x) (extended (width s) y) ≡ leaves_unsigned (width s) (pos x -ℤ pos y -ℤ pos 0)
difference_carry s x y left right = rw (extended_below s x y left right) (borrows (width s) x y left)

pub difference_digit : (s : Size) (x y : ℕ) → x < 2 ^ width s → y < 2 ^ width s → nat_lt (extended (width s) x % 16) (extended (width s) y % 16) ≡ leaves_unsigned 4 (pos (x % 16) -ℤ pos (y % 16) -ℤ pos 0)
difference_digit s x y left right = rw (extended_digit s x left, extended_digit s y right) (grind (arith))

turns : (s : Size) (z : ℤ) → neg_ℤ (pos (2 ^ width s)) ≤ℤ z → (z +ℤ pos 1) ≤ℤ pos (2 ^ width s) → differ (is_negative (width s) (modulo (width s) z)) (int_lt z (pos 0)) ≡ leaves_signed (width s) z
turns Byte z low high = grind (arith)
turns Word z low high = grind (arith)
turns Dword z low high = grind (arith)

difference_below : (s : Size) (x y : ℕ) → x < 2 ^ width s → y < 2 ^ width s → difference_of (width s) x y 0 < 2 ^ width s
difference_below Byte x y left right = grind (arith)
difference_below Word x y left right = grind (arith)
difference_below Dword x y left right = grind (arith)

modulo_of_borrowed : (s : Size) (x y : ℕ) → y < 2 ^ width s → x < y → difference_of (width s) x y 0 ≡ modulo (width s) (signed (width s) x -ℤ signed (width s) y)
modulo_of_borrowed Byte x y right borrows = grind (arith)
modulo_of_borrowed Word x y right borrows = grind (arith)
modulo_of_borrowed Dword x y right borrows = grind (arith)

modulo_of_rest : (s : Size) (x y : ℕ) → x < 2 ^ width s → y ≤ x → difference_of (width s) x y 0 ≡ modulo (width s) (signed (width s) x -ℤ signed (width s) y)
modulo_of_rest Byte x y left enough = grind (arith)
modulo_of_rest Word x y left enough = grind (arith)
modulo_of_rest Dword x y left enough = grind (arith)

difference_modulo : (s : Size) (x y : ℕ) → x < 2 ^ width s → y < 2 ^ width s → difference_of (width s) x y 0 ≡ modulo (width s) (signed (width s) x -ℤ signed (width s) y)
difference_modulo s x y left right = elim (cases_lt x y) [
  | inl borrowed ↦ modulo_of_borrowed s x y right borrowed
  | inr enough ↦ modulo_of_rest s x y left enough
]

difference_low : (s : Size) (x y : ℕ) → x < 2 ^ width s → y < 2 ^ width s → neg_ℤ (pos (2 ^ width s)) ≤ℤ (signed (width s) x -ℤ signed (width s) y)
difference_low Byte x y left right = grind (arith)
difference_low Word x y left right = grind (arith)
difference_low Dword x y left right = grind (arith)

difference_high : (s : Size) (x y : ℕ) → x < 2 ^ width s → y < 2 ^ width s → (signed (width s) x -ℤ signed (width s) y +ℤ pos 1) ≤ℤ pos (2 ^ width s)
difference_high Byte x y left right = grind (arith)
difference_high Word x y left right = grind (arith)
difference_high Dword x y left right = grind (arith)

is_below : (x y : ℤ) → int_lt x y ≡ int_lt (x -ℤ y) (pos 0)
is_below x y = grind (arith)

difference_turns : (s : Size) (x y : ℕ) → x < 2 ^ width s → y < 2 ^ width s → differ (is_negative (width s) (difference_of (width s) x y 0)) (int_lt (signed (width s) x) (signed (width s) y)) ≡ leaves_signed (width s) (signed (width s) x -ℤ signed (width s) y -ℤ pos 0)
difference_turns s x y left right =
    rw (difference_modulo s x y left right, is_below (signed (width s) x) (signed (width s) y), less_none (signed (width s) x -ℤ signed (width s) y))
    (turns s (signed (width s) x -ℤ signed (width s) y) (difference_low s x y left right) (difference_high s x y left right))

pub difference_leaves : (s : Size) (x y : ℕ) → x < 2 ^ width s → y < 2 ^ width s → leaves_signed (width s) (signed 32 (extended (width s) x) -ℤ signed 32 (extended (width s) y)) ≡ leaves_signed (width s) (signed (width s) x -ℤ signed (width s) y -ℤ pos 0)
difference_leaves s x y left right = rw (extended_signed s x left, extended_signed s y right, less_none (signed (width s) x -ℤ signed (width s) y)) refl

-- ---- which operand of a difference is less

differ_twice : (one other : Bool) → differ one (differ one other) ≡ other
differ_twice true true = refl
differ_twice true false = refl
differ_twice false true = refl
differ_twice false false = refl

pub difference_less : (s : Size) (x y : ℕ) → x < 2 ^ width s → y < 2 ^ width s → differ (is_negative 32 (extended (width s) (difference_of (width s) x y 0))) (leaves_signed (width s) (signed 32 (extended (width s) x) -ℤ signed 32 (extended (width s) y))) ≡ int_lt (signed 32 (extended (width s) x)) (signed 32 (extended (width s) y))
difference_less s x y left right =
    rw (difference_leaves s x y left right, extended_negative s (difference_of (width s) x y 0) (difference_below s x y left right), extended_signed s x left, extended_signed s y right, sym (difference_turns s x y left right))
    (differ_twice (is_negative (width s) (difference_of (width s) x y 0)) (int_lt (signed (width s) x) (signed (width s) y)))
