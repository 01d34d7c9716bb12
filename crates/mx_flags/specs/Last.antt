-- Flags from what is stored of the last operation: its operands x and y and its result n, as dwords of the same sign.
use Rattle.std.specs.Prelude.{ℕ, ◌+◌, ◌%◌, ◌^◌, ◌+ℤ◌, ◌-ℤ◌, int_lt, nat_lt, nat_le, Bool, true, false, ◌==◌, ◌≡◌}
use Rattle.mx_word.specs.Word.{signed, modulo, has_even_ones, is_negative, leaves_signed, differ}
use Rattle.mx_flags.specs.declared.Kind.{Kind}
use Rattle.mx_flags.specs.declared.Kind.TheVariants as kinds
use Rattle.mx_flags.specs.declared.Carry.{Carry}
use Rattle.mx_flags.specs.declared.Carry.TheVariants as carries
use Rattle.mx_flags.specs.declared.Auxiliary.{Auxiliary}
use Rattle.mx_flags.specs.declared.Auxiliary.TheVariants as digits
use Rattle.mx_flags.specs.declared.overflows.Overflow.{Overflow}
use Rattle.mx_flags.specs.declared.overflows.Overflow.TheVariants as overflows

-- a word of w bits as a dword of the same sign
abbrev pub extended : ℕ → ℕ → ℕ
extended w x = modulo 32 (signed w x)

-- a sum that leaves a dword, or a difference below zero
abbrev pub carry_from : Carry → ℕ → ℕ → Bool
carry_from carries.Clear x y = false
carry_from carries.Set x y = true
carry_from carries.Sum x y = nat_le (2 ^ 32) (x + y)
carry_from carries.Difference x y = nat_lt x y

-- a carry or a borrow of the low four bits; of INC and DEC with the operand k
abbrev pub auxiliary_from : Auxiliary → ℕ → ℕ → ℕ → Bool
auxiliary_from digits.Clear x y k = false
auxiliary_from digits.Set x y k = true
auxiliary_from digits.Sum x y k = nat_le 16 (x % 16 + y % 16)
auxiliary_from digits.Difference x y k = nat_lt (x % 16) (y % 16)
auxiliary_from digits.Increment x y k = k % 16 == 15
auxiliary_from digits.Decrement x y k = k % 16 == 0

-- sign and parity show the result, or are values
abbrev pub shown_from : Kind → Bool → Bool → Bool
shown_from kinds.Sum shown given = shown
shown_from kinds.Difference shown given = shown
shown_from kinds.Logic shown given = shown
shown_from kinds.Increment shown given = shown
shown_from kinds.Decrement shown given = shown
shown_from kinds.Shift shown given = shown
shown_from kinds.Values shown given = given

abbrev pub sign_from : Kind → ℕ → Bool → Bool
sign_from kind n given = shown_from kind (is_negative 32 n) given

abbrev pub parity_from : Kind → ℕ → Bool → Bool
parity_from kind n given = shown_from kind (has_even_ones n) given

-- a sum or difference that leaves the signed range; INC of the highest number, and DEC of the lowest, with the operand k
abbrev pub overflow_from : Overflow → ℕ → ℕ → ℕ → Bool
overflow_from overflows.Clear x y k = false
overflow_from overflows.Set x y k = true
overflow_from overflows.SumOfBytes x y k = leaves_signed 8 (signed 32 x +ℤ signed 32 y)
overflow_from overflows.SumOfWords x y k = leaves_signed 16 (signed 32 x +ℤ signed 32 y)
overflow_from overflows.SumOfDwords x y k = leaves_signed 32 (signed 32 x +ℤ signed 32 y)
overflow_from overflows.DifferenceOfBytes x y k = leaves_signed 8 (signed 32 x -ℤ signed 32 y)
overflow_from overflows.DifferenceOfWords x y k = leaves_signed 16 (signed 32 x -ℤ signed 32 y)
overflow_from overflows.DifferenceOfDwords x y k = leaves_signed 32 (signed 32 x -ℤ signed 32 y)
overflow_from overflows.IncrementOfByte x y k = k + 1 == 2 ^ 7
overflow_from overflows.IncrementOfWord x y k = k + 1 == 2 ^ 15
overflow_from overflows.IncrementOfDword x y k = k + 1 == 2 ^ 31
overflow_from overflows.DecrementOfByte x y k = k == 2 ^ 7
overflow_from overflows.DecrementOfWord x y k = k == 2 ^ 15
overflow_from overflows.DecrementOfDword x y k = k == 2 ^ 31

-- after a difference, sign and overflow tell whether x is less than y as signed numbers
abbrev pub TellsLess : Kind → Overflow → ℕ → ℕ → ℕ → ℕ → Type 0
TellsLess kind overflow x y k n =
    kind ≡ kinds.Difference
    → differ (is_negative 32 n) (overflow_from overflow x y k) ≡ int_lt (signed 32 x) (signed 32 y)
