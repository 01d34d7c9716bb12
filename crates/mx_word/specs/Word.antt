-- Words as whole numbers, as signed numbers and as bytes.
use Rattle.std.specs.Prelude.{ℕ, zero, suc, ◌+◌, ◌-◌, ◌*◌, ◌/◌, ◌^◌, ◌%◌, ℤ, pos, negsuc, ◌+ℤ◌, ◌-ℤ◌, ◌≤ℤ◌, neg_ℤ, Bool}
use Rattle.std.specs.Prelude.{true, false, nat_lt, nat_le, int_lt, int_le, ◌||◌, if◌then◌else◌, count_ones, ◌==◌, List}
use Rattle.std.specs.Prelude.{[], ◌∷◌, slice_index}
use Rattle.mx_word.specs.declared.size.Size.{Size}
use Rattle.mx_word.specs.declared.size.Size.TheVariants.{Byte, Word, Dword}

-- the number of bits
abbrev pub width : Size → ℕ
width Byte = 8
width Word = 16
width Dword = 32

-- the number of bytes
abbrev pub bytes_in : Size → ℕ
bytes_in Byte = 1
bytes_in Word = 2
bytes_in Dword = 4

-- ---- bytes: the lowest byte of a number comes first (manual, 2.2)

-- the value of bytes b0, b1, .. is b0 + 256 * (b1 + 256 * ..), the sum of b_i * 256 ^ i
abbrev pub value : List ℕ → ℕ
value [] = 0
value (b ∷ bs) = b + 256 * value bs

-- the value of the k bytes from a place on
abbrev pub value_at : List ℕ → ℕ → ℕ → ℕ
value_at bytes at zero = 0
value_at bytes at (suc k) = slice_index bytes at + 256 * value_at bytes (suc at) k

-- the k bytes of a number
abbrev pub bytes_of : ℕ → ℕ → List ℕ
bytes_of zero number = []
bytes_of (suc k) number = (number % 256) ∷ bytes_of k (number / 256)

-- ---- numbers of w bits

-- x below 2 ^ (w - 1), else x - 2 ^ w
abbrev pub signed : ℕ → ℕ → ℤ
signed w x = if nat_lt x (2 ^ (w - 1)) then pos x else (pos x -ℤ pos (2 ^ w))

-- the number from 0 to 2 ^ w - 1 that differs from z by a multiple of 2 ^ w
abbrev pub modulo : ℕ → ℤ → ℕ
modulo w (pos n) = n % 2 ^ w
modulo w (negsuc n) = 2 ^ w - 1 - n % 2 ^ w

-- z is not one of 0 to 2 ^ w - 1
abbrev pub leaves_unsigned : ℕ → ℤ → Bool
leaves_unsigned w z = int_lt z (pos 0) || int_le (pos (2 ^ w)) z

-- z is not one of - 2 ^ (w - 1) to 2 ^ (w - 1) - 1
abbrev pub leaves_signed : ℕ → ℤ → Bool
leaves_signed w z = int_lt z (neg_ℤ (pos (2 ^ (w - 1)))) || int_le (pos (2 ^ (w - 1))) z

-- a sum or difference with a carry or borrow c, modulo 2 ^ w
abbrev pub sum_of : ℕ → ℕ → ℕ → ℕ → ℕ
sum_of w x y c = modulo w (pos x +ℤ pos y +ℤ pos c)

abbrev pub difference_of : ℕ → ℕ → ℕ → ℕ → ℕ
difference_of w x y c = modulo w (pos x -ℤ pos y -ℤ pos c)

-- the top bit is one
abbrev pub is_negative : ℕ → ℕ → Bool
is_negative w x = nat_le (2 ^ (w - 1)) x

-- the number of ones in the low byte is even
abbrev pub has_even_ones : ℕ → Bool
has_even_ones x = count_ones (x % 256) % 2 == 0

-- so small that sums and differences of three such numbers fit 64 bits
abbrev pub IsSmall : ℤ → Type 0
IsSmall z = (neg_ℤ (pos (2 ^ 40)) ≤ℤ z) × (z ≤ℤ pos (2 ^ 40))

-- one of the two is true
abbrev pub differ : Bool → Bool → Bool
differ true true = false
differ true false = true
differ false true = true
differ false false = false
