-- Words as dwords of the same sign.
use Rattle.std.proofs.Common.{ℕ, ◌≡◌, ◌+◌, ◌-◌, ◌%◌, ◌^◌, ◌≤◌, ◌<◌, ◌==◌, refl, arith, nat_le, nat_lt}
use Rattle.mx_word.specs.Word.{width, has_even_ones, is_negative, signed}
use Rattle.mx_word.specs.declared.size.Size.{Size}
use Rattle.mx_word.specs.declared.size.Size.TheVariants.{Byte, Word, Dword}
use Rattle.mx_flags.specs.Last.{extended}

-- a word below the half stays, and another one gets ones above it
extended_low : (s : Size) (x : ℕ) → x < 2 ^ (width s - 1) → extended (width s) x ≡ x
extended_low Byte x small = grind (arith)
extended_low Word x small = grind (arith)
extended_low Dword x small = grind (arith)

extended_high : (s : Size) (x : ℕ) → 2 ^ (width s - 1) ≤ x → x < 2 ^ width s → extended (width s) x ≡ 2 ^ 32 - 2 ^ width s + x
extended_high Byte x large small = grind (arith)
extended_high Word x large small = grind (arith)
extended_high Dword x large small = grind (arith)

pub extended_negative : (s : Size) (x : ℕ) → x < 2 ^ width s → is_negative 32 (extended (width s) x) ≡ is_negative (width s) x
extended_negative Byte x small = grind (arith)
extended_negative Word x small = grind (arith)
extended_negative Dword x small = grind (arith)

pub extended_zero : (s : Size) (x : ℕ) → x < 2 ^ width s → (extended (width s) x == 0) ≡ (x == 0)
extended_zero Byte x small = grind (arith)
extended_zero Word x small = grind (arith)
extended_zero Dword x small = grind (arith)

extended_byte : (s : Size) (x : ℕ) → x < 2 ^ width s → extended (width s) x % 256 ≡ x % 256
extended_byte Byte x small = grind (arith)
extended_byte Word x small = grind (arith)
extended_byte Dword x small = grind (arith)

pub extended_parity : (s : Size) (x : ℕ) → x < 2 ^ width s → has_even_ones (extended (width s) x) ≡ has_even_ones x
extended_parity s x small = rw (extended_byte s x small) refl

pub extended_digit : (s : Size) (x : ℕ) → x < 2 ^ width s → extended (width s) x % 16 ≡ x % 16
extended_digit s x small =
    let byte = extended_byte s x small in
    omega arith

pub extended_signed : (s : Size) (x : ℕ) → x < 2 ^ width s → signed 32 (extended (width s) x) ≡ signed (width s) x
extended_signed Byte x small = grind (arith)
extended_signed Word x small = grind (arith)
extended_signed Dword x small = grind (arith)

pub extended_below : (s : Size) (x y : ℕ) → x < 2 ^ width s → y < 2 ^ width s → nat_lt (extended (width s) x) (extended (width s) y) ≡ nat_lt x y
extended_below Byte x y left right = grind (arith)
extended_below Word x y left right = grind (arith)
extended_below Dword x y left right = grind (arith)

pub extended_carry : (s : Size) (x y : ℕ) → x < 2 ^ width s → y < 2 ^ width s → nat_le (2 ^ 32) (extended (width s) x + extended (width s) y) ≡ nat_le (2 ^ width s) (x + y)
extended_carry Byte x y left right = grind (arith)
extended_carry Word x y left right = grind (arith)
extended_carry Dword x y left right = grind (arith)
