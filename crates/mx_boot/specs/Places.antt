-- Places in a program, as words name them (our own).
use Rattle.std.specs.Prelude.{ℕ, nat_le, if◌then◌else◌, List, [], ◌∷◌, length, Option, Some, None}
use Rattle.mx_text.specs.Bytes.{is_digit}
use Rattle.mx_text.specs.Fields.{◌>>=◌}
use Rattle.mx_boot.specs.declared.place.CodePlace.{CodePlace}
use Rattle.mx_boot.specs.declared.place.CodePlace.TheVariants.{Address, Symbol, NoName}
use Rattle.mx_boot.specs.Script.{count_field}

-- what a word names that isn't a number: a symbol's name has at most eight bytes (a.out.h)
abbrev pub named_place : List ℕ → CodePlace
named_place word = if nat_le (length word) 8 then Symbol word else NoName

-- an address begins with a digit; any other word is a name
abbrev pub code_place_of : List ℕ → Option CodePlace
code_place_of [] = None
code_place_of (b ∷ bs) = if is_digit b then (do
  at ← count_field (b ∷ bs)
  Some (Address at)) else Some (named_place (b ∷ bs))
