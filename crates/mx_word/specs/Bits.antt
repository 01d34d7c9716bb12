-- Single bits of numbers.
use Rattle.std.specs.Prelude.{ℕ, Bool, ◌==◌}
use Rattle.std.specs.Int.{bit_at}

-- bit k of x is one; bit 0 is the lowest
abbrev pub has_bit : ℕ → ℕ → Bool
has_bit x k = bit_at x k == 1
