-- The lines of a file of outside events (our own).
use Rattle.std.specs.Prelude.{◌≡◌, ℕ, List, [], ◌∷◌, Option, Some, None}
use Rattle.mx_text.specs.Fields.{fields, ◌>>=◌}
use Rattle.mx_text.specs.Lines.{lines}
use Rattle.mx_text.specs.declared.error.BootError.{BootError}
use Rattle.mx_boot.specs.declared.event_kind.EventKind.{EventKind}
use Rattle.mx_boot.specs.declared.event_kind.EventKind.TheVariants as kinds
use Rattle.mx_boot.specs.Script.{after_event_word, only_count}
use Rattle.mx_machine.specs.declared.config.ServiceLine.{ServiceLine}
use Rattle.mx_machine.specs.declared.events.Event.TheVariants.{Line, Tick, Respawn}
use Rattle.mx_app_step.specs.Config.{Config}
use Rattle.mx_turns.specs.declared.outside.OutsideLine.{OutsideLine}
use Rattle.mx_turns.specs.declared.outside.OutsideLine.TheVariants.{Plain}
use Rattle.mx_app_turns.specs.Commented.{AreSaid, TellsUnsaid}
use Rattle.mx_app_turns.specs.Named.{kill_of_fields, only_slot}

-- what a line says that begins with a kind and goes on with these fields, if these are the lines of services
abbrev pub outside_line_of : List ServiceLine → EventKind → List (List ℕ) → Option OutsideLine
outside_line_of services kinds.Line fs = do
  l ← only_count fs
  Some (Plain (Line l))
outside_line_of services kinds.Tick [] = Some (Plain Tick)
outside_line_of services kinds.Tick (f ∷ fs) = None
outside_line_of services kinds.Kill fs = kill_of_fields services fs
outside_line_of services kinds.Respawn fs = do
  s ← only_slot services fs
  Some (Plain (Respawn s))
outside_line_of services _ fs = None

-- what a line of a file of outside events says, without its comment: `line L`, `tick`, `kill E` or `respawn S`, as in a
-- script, or `kill NAME` or `respawn NAME`
abbrev pub outside_line : List ServiceLine → List ℕ → Option OutsideLine
outside_line services line = after_event_word (outside_line_of services) (fields line)

-- the lines of a text say these events; the machine boots by the configuration as it was read
abbrev pub AreOutside : List ℕ → Config → Config → List OutsideLine → Type 0
AreOutside text read config said = AreSaid (outside_line read.lines) (lines text) said × (config ≡ read)

abbrev pub TellsOutside : List ℕ → Config → BootError → Type 0
TellsOutside text config e = TellsUnsaid (outside_line config.lines) (lines text) e
