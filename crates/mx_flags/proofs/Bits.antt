-- Values of flags and their bits.
use Rattle.std.proofs.Common.{ℕ, ◌≡◌, ◌/◌, ◌%◌, ◌≤◌, Bool, true, false, ◌==◌, refl, arith}
use Rattle.std.specs.Int.{from_bool}
use Rattle.mx_flags.specs.Flags.{bits_of, values_of}
use Rattle.mx_flags.specs.declared.FlagValues.{FlagValues}

pub from_bool_le : (b : Bool) → from_bool b ≤ 1
from_bool_le true = omega arith
from_bool_le false = omega arith

test_from_bool : (b : Bool) (n : ℕ) → n ≡ from_bool b → (n == 1) ≡ b
test_from_bool true n h = rw h
test_from_bool false n h = rw h

-- seven values are those of their bits
pub values_of_bits_of : (f : FlagValues) → values_of (bits_of f) ≡ f
values_of_bits_of f =
    let c = from_bool_le f.carry in
    let p = from_bool_le f.parity in
    let a = from_bool_le f.auxiliary in
    let z = from_bool_le f.zero in
    let s = from_bool_le f.sign in
    let d = from_bool_le f.direction in
    let o = from_bool_le f.overflow in
    let n : ℕ = bits_of f in
    rw (
      test_from_bool f.carry (n % 2) (omega arith),
      test_from_bool f.parity (n / 4 % 2) (omega arith),
      test_from_bool f.auxiliary (n / 16 % 2) (omega arith),
      test_from_bool f.zero (n / 64 % 2) (omega arith),
      test_from_bool f.sign (n / 128 % 2) (omega arith),
      test_from_bool f.direction (n / 1024 % 2) (omega arith),
      test_from_bool f.overflow (n / 2048 % 2) (omega arith),
    ) refl
