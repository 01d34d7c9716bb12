-- What the lines of a script do with a machine (our own).
use Rattle.std.specs.Prelude.{ℕ, zero, suc, List, [], ◌∷◌, Option, Some, None, Result, if◌then◌else◌}
use Rattle.mx_image.specs.declared.runs.Stop.TheVariants.{Spent}
use Rattle.mx_boot.specs.declared.scripts.ScriptLine.{ScriptLine}
use Rattle.mx_boot.specs.declared.scripts.ScriptLine.TheVariants.{Step, Take, Back, Line, Tick, Kill, Respawn}
use Rattle.mx_machine.specs.declared.events.Answer.{Answer}
use Rattle.mx_machine.specs.declared.events.Event.TheVariants as events
use Rattle.mx_machine.specs.declared.events.Refusal.{Refusal}
use Rattle.mx_machine.specs.declared.events.Refusal.TheVariants.{AtStop, CpuEmpty}
use Rattle.mx_machine.specs.declared.holding.Out.{Out}
use Rattle.mx_machine.specs.Held.{held_run}
use Rattle.mx_machine.specs.History.{world_after_events}
use Rattle.mx_machine.specs.Move.{at_stop, move}
use Rattle.mx_machine.specs.Steps.{steps_of}
use Rattle.mx_machine.specs.World.{World, HeldProcess, held_by}
use Rattle.mx_print_answers.specs.declared.said.Said.{Said}
use Rattle.mx_print_answers.specs.declared.said.Said.TheVariants.{Stepped, Refused}
use Rattle.mx_print_answers.specs.Said.{said_of_answer}

-- ---- steps of a processor

-- how many a run makes and how they end, or that not even the first can be made
abbrev pub said_of_run : ℕ → Out → Said
said_of_run k out = if at_stop out then Refused AtStop else Stepped (held_run k out).0.0 (held_run k out).0.1

abbrev pub run_made : World → ℕ → ℕ → Option HeldProcess → Said × World
run_made w c k None = (Refused CpuEmpty, w)
run_made w c k (Some l) = (said_of_run k l.out, world_after_events w (steps_of c (held_run k l.out).0.0))

-- at most that many steps, up to a stop; no steps are none, whatever the processor holds
abbrev pub steps_made : World → ℕ → ℕ → Said × World
steps_made w c zero = (Stepped 0 Spent, w)
steps_made w c (suc k) = run_made w c (suc k) (held_by w c)

-- ---- a line

-- what is said of an event, and the world after it
abbrev pub event_made : Result Answer Refusal × World → Said × World
event_made m = (said_of_answer m.0, m.1)

-- WHAT A LINE DOES, where `other` is the actor of the lines that name none: what is said of it, and the world after it
unfoldable pub line_made : World → ℕ → ScriptLine → Said × World
line_made w other (Step c k) = steps_made w c k
line_made w other (Take c) = event_made (move w c events.Take)
line_made w other (Back c) = event_made (move w c events.Back)
line_made w other (Line l) = event_made (move w other (events.Line l))
line_made w other Tick = event_made (move w other events.Tick)
line_made w other (Kill e) = event_made (move w other (events.Kill e))
line_made w other (Respawn s) = event_made (move w other (events.Respawn s))

-- and lines in a row
abbrev pub lines_made : World → ℕ → List ScriptLine → List Said × World
lines_made w other [] = ([], w)
lines_made w other (l ∷ ls) = let m = line_made w other l in let r = lines_made m.1 other ls in (m.0 ∷ r.0, r.1)
