-- Numbers in hexadecimal digits, in lower case (our own).
use Rattle.std.specs.Prelude.{ℕ, ◌/◌, ◌%◌, false, List, [], ◌∷◌}
use Rattle.std.specs.Fmt.{digit_glyph}

-- a byte in two digits
abbrev pub two_digits : ℕ → List ℕ
two_digits b = digit_glyph false (b / 16) ∷ digit_glyph false (b % 16) ∷ []
