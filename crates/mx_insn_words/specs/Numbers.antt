-- Numbers in hexadecimal, in lower case.
use Rattle.std.specs.Prelude.{ℕ, ◌-◌, false, List, ◌++◌, length, replicate, codes}
use Rattle.std.specs.Fmt.{digits}

-- the digits of a number, with no zero in front
abbrev pub hexadecimal : ℕ → List ℕ
hexadecimal n = digits 16 false n

-- a number in a statement: unsigned, and marked as hexadecimal
abbrev pub number_text : ℕ → List ℕ
number_text n = codes "0x" ++ hexadecimal n

-- eight digits, by zeros in front; a number of 32 bits has no more
abbrev pub eight_digits : ℕ → List ℕ
eight_digits n = replicate (8 - length (hexadecimal n)) 48 ++ hexadecimal n
