-- How many bytes the chosen spelling has.
use Rattle.std.specs.Prelude.{ℕ, Bool, length, Option, Some, None}
use Rattle.mx_insn.specs.declared.insn.Insn.{Insn}
use Rattle.mx_insn.specs.Spelling.{spelling}
use Rattle.mx_encode.specs.declared.Wide.{Wide}
use Rattle.mx_encode.specs.Choice.{Choice, choice}
use Rattle.mx_encode.specs.Chosen.{fields_of}

abbrev pub spelled_length : Option Choice → Bool → ℕ
spelled_length None long = 0
spelled_length (Some c) long = length (spelling c.row (fields_of c long))

-- 0 if there is none
abbrev pub chosen_length : Insn → Wide → ℕ
chosen_length i wide = spelled_length (choice i wide) wide.displacement
