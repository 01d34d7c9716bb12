-- Processes that a line names: by an endpoint or a slot, or by the name of their service (our own).
use Rattle.std.specs.Prelude.{ℕ, List, Option, Some, None, position}
use Rattle.std.specs.Str.{bytes_eq}
use Rattle.mx_boot.specs.Script.{count_field}
use Rattle.mx_machine.specs.declared.config.ServiceLine.{ServiceLine}
use Rattle.mx_machine.specs.declared.events.Event.TheVariants as events
use Rattle.mx_text.specs.Fields.{only, ◌>>=◌}
use Rattle.mx_text.specs.Names.{name_of}
use Rattle.mx_turns.specs.declared.outside.OutsideLine.{OutsideLine}
use Rattle.mx_turns.specs.declared.outside.OutsideLine.TheVariants.{Plain, KillSlot}

-- the slot of the service of this name: the place of its line
abbrev pub slot_of_name : List ServiceLine → List ℕ → Option ℕ
slot_of_name lines word = do
  name ← name_of word
  position (λ (l : ServiceLine). bytes_eq l.name.bytes name.bytes) lines

abbrev pub slot_by : Option ℕ → List ServiceLine → List ℕ → Option ℕ
slot_by (Some s) lines word = Some s
slot_by None lines word = slot_of_name lines word

-- A SLOT: a number, or its service's name, which begins with no digit
abbrev pub slot_of_word : List ServiceLine → List ℕ → Option ℕ
slot_of_word lines word = slot_by (count_field word) lines word

-- the slot that the only field names
abbrev pub only_slot : List ServiceLine → List (List ℕ) → Option ℕ
only_slot lines fs = do
  word ← only fs
  slot_of_word lines word

-- A KILL, of the process of an endpoint, or of that which the service of a name has then
abbrev pub kill_by : Option ℕ → List ServiceLine → List ℕ → Option OutsideLine
kill_by (Some e) lines word = Some (Plain (events.Kill e))
kill_by None lines word = do
  s ← slot_of_name lines word
  Some (KillSlot s)

abbrev pub kill_of_fields : List ServiceLine → List (List ℕ) → Option OutsideLine
kill_of_fields lines fs = do
  word ← only fs
  kill_by (count_field word) lines word
