-- What a value has besides its name (our own notation: a number with or without a sign, a name, or a name and
-- such a number).
use Rattle.std.specs.Prelude.{ℕ, ℤ, pos, neg_ℤ, Bool, true, false}
use Rattle.mx_asm_statement.specs.declared.value.Value.{Value}

-- a number with its sign
abbrev pub with_sign : Bool → ℕ → ℤ
with_sign true n = neg_ℤ (pos n)
with_sign false n = pos n

abbrev pub whole_of : Value → ℤ
whole_of v = with_sign v.minus v.number
