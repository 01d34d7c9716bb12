-- What a text that is a number is read as.
use Rattle.std.proofs.Common.{◌≡◌, ◌∙◌, ap, sym, ℕ, Option, Result}
use Rattle.std.specs.Prelude.{Err, None, Ok, Some}
use Rattle.std.specs.Str.Parse.{ExplainsUnsignedError, HasUnsignedDigitsIfOk, ParsesUnsigned}
use Rattle.std.specs.declared.num.ParseIntError.{ParseIntError}
use Rattle.clap.specs.Words.{ReadsOne, Text}

read_only : (E : Type 0) (G : Text → Result ℕ E → Type 0) (text : Text) (n : ℕ) (r : Option ℕ)
    → ((u : Text) (x : Result ℕ E) → G u x → ParsesUnsigned 32 10 u x) → ParsesUnsigned {E = ParseIntError} 32 10 text (Ok n) → ReadsOne G text r → r ≡ Some n
read_only E G text n (Some v) only number read = ap Some ((only text (Ok v) read).1 ∙ sym number.1)
read_only E G text n None only number read = absurd (only text (Err read.0) read.1 number.0)

-- what `u32` makes of a text
abbrev pub ReadsU32 : Text → Result ℕ ParseIntError → Type 0
ReadsU32 text r = ParsesUnsigned 32 10 text r × ExplainsUnsignedError 10 text r × HasUnsignedDigitsIfOk text r

pub number_read : (text : Text) (n : ℕ) (r : Option ℕ) → ParsesUnsigned {E = ParseIntError} 32 10 text (Ok n) → ReadsOne ReadsU32 text r → r ≡ Some n
number_read text n r number read = read_only ParseIntError ReadsU32 text n r (λ u x g. g.0) number read
