-- The lines of a file of a fault (our own).
use Rattle.std.specs.Prelude.{ℕ, if◌then◌else◌, List, Option, Some, None, codes}
use Rattle.std.specs.Str.{bytes_eq}
use Rattle.mx_text.specs.Fields.{fields, only, pair, ◌>>=◌}
use Rattle.mx_boot.specs.declared.scripts.ScriptLine.{ScriptLine}
use Rattle.mx_boot.specs.declared.scripts.ScriptLine.TheVariants.{Respawn}
use Rattle.mx_boot.specs.declared.event_kind.EventKind.{EventKind}
use Rattle.mx_boot.specs.declared.event_kind.EventKind.TheVariants as kinds
use Rattle.mx_boot.specs.Script.{after_event_word, count_field, script_line_of}
use Rattle.mx_machine.specs.declared.config.ServiceLine.{ServiceLine}
use Rattle.mx_turns.specs.declared.faults.FaultLine.{FaultLine}
use Rattle.mx_turns.specs.declared.faults.FaultLine.TheVariants.{Plain, KillSlot}
use Rattle.mx_app_turns.specs.Named.{slot_of_name}

-- the slot that `slot S` names
abbrev pub slot_named : List (List ℕ) → Option ℕ
slot_named fs = do
  p ← pair fs
  if bytes_eq p.0 (codes "slot") then count_field p.1 else None

-- the slot of the service that is the only field
abbrev pub service_named : List ServiceLine → List (List ℕ) → Option ℕ
service_named services fs = do
  word ← only fs
  slot_of_name services word

abbrev pub first_of : Option ℕ → Option ℕ → Option ℕ
first_of (Some s) other = Some s
first_of None other = other

-- `kill slot S`, `kill NAME` and `respawn NAME`
abbrev pub named_line : List ServiceLine → EventKind → List (List ℕ) → Option FaultLine
named_line services kinds.Kill fs = do
  s ← first_of (slot_named fs) (service_named services fs)
  Some (KillSlot s)
named_line services kinds.Respawn fs = do
  s ← service_named services fs
  Some (Plain (Respawn s))
named_line services _ fs = None

-- a script's line, or else what it is
abbrev pub plain_or : Option ScriptLine → Option FaultLine → Option FaultLine
plain_or (Some line) other = Some (Plain line)
plain_or None other = other

-- what a line says that begins with a kind and goes on with these fields, if these are the lines of services: what it
-- says in a script; or one that names a slot or a service
abbrev pub fault_line_of : List ServiceLine → EventKind → List (List ℕ) → Option FaultLine
fault_line_of services kind fs = plain_or (script_line_of kind fs) (named_line services kind fs)

-- what a line of a fault says, without its comment
abbrev pub fault_line : List ServiceLine → List ℕ → Option FaultLine
fault_line services line = after_event_word (fault_line_of services) (fields line)
