-- The symbol that an address lies at or after (our own; classes are those of a.out.h).
use Rattle.std.specs.Prelude.{ℕ, ◌%◌, ◌==◌, ◌&&◌, Bool, List, [], ◌∷◌, Option, find, if◌then◌else◌, nat_le, nat_lt}
use Rattle.mx_aout.specs.declared.program.Symbol.{Symbol}

-- a symbol is in the text (class 2), and at an address or above it
abbrev pub is_at_or_above : ℕ → Symbol → Bool
is_at_or_above at s = (s.class % 8 == 2) && nat_le s.value at

-- a value, or that of a symbol there, whichever is greater
abbrev pub greater_value : ℕ → ℕ → Symbol → ℕ
greater_value v at s = if is_at_or_above at s && nat_lt v s.value then s.value else v

-- the greatest of a value and those of symbols there
abbrev pub greatest_from : ℕ → ℕ → List Symbol → ℕ
greatest_from v at [] = v
greatest_from v at (s ∷ ss) = greatest_from (greater_value v at s) at ss

abbrev pub greatest_value : ℕ → List Symbol → ℕ
greatest_value at symbols = greatest_from 0 at symbols

-- THE NEAREST SYMBOL: the first of those that have this value
unfoldable pub nearest_symbol : ℕ → List Symbol → Option Symbol
nearest_symbol at symbols = find (λ s. is_at_or_above at s && (s.value == greatest_value at symbols)) symbols
