-- The chosen spelling of an instruction.
use Rattle.std.specs.Prelude.{◌≡◌, ℕ, Bool, true, false, List, Some}
use Rattle.mx_insn.specs.declared.insn.Insn.{Insn}
use Rattle.mx_insn.specs.Spelling.{Fields, SpellsBy}
use Rattle.mx_encode.specs.declared.Wide.{Wide}
use Rattle.mx_encode.specs.Numbers.{number_bytes}
use Rattle.mx_encode.specs.Places.{has_place, rm_form_for}
use Rattle.mx_encode.specs.Choice.{Choice, choice}

-- 66 is before F3 and F2
abbrev pub fields_of : Choice → Bool → Fields
fields_of c long =
    record {
      resized = c.resized;
      repeat = c.repeat;
      turned = false;
      number = c.number;
      place = rm_form_for c.rm long;
      immediate = number_bytes c.immediate;
    }

-- the bytes, whole, are the spelling of the instruction that is chosen
pub record Chosen (i : Insn) (wide : Wide) (bytes : List ℕ) : Type 0 where
  pub chosen : Choice
  pub is_chosen : choice i wide ≡ Some chosen
  pub stands : has_place chosen.rm ≡ true
  pub spells : SpellsBy chosen.row (fields_of chosen wide.displacement) bytes i
