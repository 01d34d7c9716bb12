-- The lines of a fault (our own).
use Rattle.std.specs.Prelude.{ℕ, nat_lt, if◌then◌else◌, List, [], ◌∷◌, length, Option, Some, None}
use Rattle.mx_app_step.specs.Kept.{event_of_line, kept_by}
use Rattle.mx_app_step.specs.Lines.{line_made}
use Rattle.mx_boot.specs.declared.scripts.ScriptLine.{ScriptLine}
use Rattle.mx_boot.specs.declared.scripts.ScriptLine.TheVariants.{Kill}
use Rattle.mx_machine.specs.declared.events.Refusal.TheVariants.{NoProcess}
use Rattle.mx_machine.specs.History.{BootAndHistory}
use Rattle.mx_machine.specs.Proc.TableState.{TableState, endpoint_of}
use Rattle.mx_machine.specs.World.{World}
use Rattle.mx_print_answers.specs.declared.said.Said.{Said}
use Rattle.mx_print_answers.specs.declared.said.Said.TheVariants.{Refused}
use Rattle.mx_turns.specs.declared.faults.FaultLine.{FaultLine}
use Rattle.mx_turns.specs.declared.faults.FaultLine.TheVariants.{Plain, KillSlot}

-- the script's line that a fault's line is, by the table then: a kill of a slot is one of the slot's process. None if
-- there is no such slot
abbrev pub line_now : TableState → FaultLine → Option ScriptLine
line_now t (Plain line) = Some line
line_now t (KillSlot s) = if nat_lt s (length t.slots) then Some (Kill (endpoint_of t s)) else None

-- what is said of it, and the world after it
abbrev pub made_now : World → ℕ → Option ScriptLine → Said × World
made_now w other (Some line) = line_made w other line
made_now w other None = (Refused NoProcess, w)

-- WHAT A LINE OF A FAULT DOES; `other` is the actor of the lines that name none
unfoldable pub fault_made : World → ℕ → FaultLine → Said × World
fault_made w other line = made_now w other (line_now w.table line)

-- and the kernel after it: its history has the record of the event, if the event is accepted
abbrev pub kept_now : BootAndHistory → World → ℕ → Option ScriptLine → BootAndHistory
kept_now k w other (Some line) = kept_by k w (event_of_line other line)
kept_now k w other None = k

unfoldable pub fault_kept : BootAndHistory → World → ℕ → FaultLine → BootAndHistory
fault_kept k w other line = kept_now k w other (line_now w.table line)

-- lines in a row
abbrev pub faults_made : World → ℕ → List FaultLine → List Said × World
faults_made w other [] = ([], w)
faults_made w other (l ∷ ls) = let m = fault_made w other l in let r = faults_made m.1 other ls in (m.0 ∷ r.0, r.1)

abbrev pub faults_kept : BootAndHistory → World → ℕ → List FaultLine → BootAndHistory
faults_kept k w other [] = k
faults_kept k w other (l ∷ ls) = faults_kept (fault_kept k w other l) (fault_made w other l).1 other ls
