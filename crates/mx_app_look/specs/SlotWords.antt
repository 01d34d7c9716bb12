-- Slots, as they are typed (our own).
use Rattle.std.specs.Prelude.{ℕ, List, Option, Some, None, min, position, unwrap_or}
use Rattle.std.specs.Str.{bytes_eq}
use Rattle.mx_boot.specs.Script.{count_field}
use Rattle.mx_machine.specs.Service.{Service}
use Rattle.mx_text.specs.Fields.{only, ◌>>=◌}
use Rattle.mx_text.specs.Names.{name_of}

-- the slot of the first service of this name; 32, which is no slot's number, if none has it
abbrev pub slot_of_name : List Service → List ℕ → Option ℕ
slot_of_name services word = do
  name ← name_of word
  Some (min (unwrap_or (position (λ (v : Service). bytes_eq v.name.bytes name.bytes) services) 32) 32)

abbrev pub slot_by : Option ℕ → List Service → List ℕ → Option ℕ
slot_by (Some s) services word = Some s
slot_by None services word = slot_of_name services word

-- THE SLOT that a word is: a number, or the name of its service, which begins with no digit
abbrev pub slot_of_word : List Service → List ℕ → Option ℕ
slot_of_word services word = slot_by (count_field word) services word

abbrev pub only_slot : List Service → List (List ℕ) → Option ℕ
only_slot services fs = do
  f ← only fs
  slot_of_word services f
