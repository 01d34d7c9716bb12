-- The machine of one thread: a kernel, and what its processors hold.
use Rattle.std.specs.Prelude.{ℕ, true, ◌≡◌, ◌<◌, ◌≤◌, List, [], ◌∷◌, Option, Some, None, Result, Ok, Err, length}
use Rattle.std.specs.Prelude.{slice_index_or, if◌then◌else◌}
use Rattle.mx_machine.specs.declared.events.Answer.{Answer}
use Rattle.mx_machine.specs.declared.events.Answer.TheVariants.{Went, Returned}
use Rattle.mx_machine.specs.declared.events.Event.{Event}
use Rattle.mx_machine.specs.declared.events.Event.TheVariants.{Step, Take, Back}
use Rattle.mx_machine.specs.declared.events.Refusal.{Refusal}
use Rattle.mx_machine.specs.declared.events.Refusal.TheVariants.{AtStop, CpuEmpty}
use Rattle.mx_machine.specs.declared.history.Recorded.{Recorded}
use Rattle.mx_machine.specs.declared.history.Recorded.TheVariants as recorded
use Rattle.mx_machine.specs.declared.holding.Out.{Out}
use Rattle.mx_machine.specs.World.{World, HeldProcess, actors, held_by}
pub use Rattle.mx_machine.specs.Held.{IsRunOf}
use Rattle.mx_machine.specs.Held.{held_run, outcome_of_step, out_after_step}
use Rattle.mx_machine.specs.Move.{at_stop}
use Rattle.mx_machine.specs.History.{BootAndHistory, AreAccepted, world_after_events, replay, with_record}
use Rattle.mx_machine.specs.Steps.{steps_of}
pub use Rattle.mx_machine.specs.Agrees.{AreSound}
use Rattle.mx_machine.specs.KernelState.{is_for_all, recorded_as}

-- What a machine is seen as: its kernel, and what each processor holds.
pub record MachineState : Type 0 where
  pub kernel : BootAndHistory
  pub outs : List (Option Out)

-- what the kernel shows as lent, as the processor holds it now
abbrev pub held_now : Option HeldProcess → Option Out → Option HeldProcess
held_now (Some l) (Some o) = Some (record l { out = o })
held_now lent _ = lent

abbrev pub all_held_now : List (Option HeldProcess) → List (Option Out) → List (Option HeldProcess)
all_held_now (l ∷ ls) (o ∷ os) = held_now l o ∷ all_held_now ls os
all_held_now ls _ = ls

-- THE WORLD of a machine: its kernel's, but a processor's process is as the processor has left it
unfoldable pub world_of : MachineState → World
world_of m = let w = replay m.kernel in record w { cpus = all_held_now w.cpus m.outs }

-- a processor holds something exactly if it was lent something
abbrev pub IsHeld : Option HeldProcess → Option Out → Type 0
IsHeld (Some l) (Some o) = IsRunOf l.out o
IsHeld None None = Unit {0}
IsHeld _ _ = ⊥

-- What always holds of a machine.
pub record IsMachineState (m : MachineState) : Type 0 where
  pub few : length (replay m.kernel).cpus ≤ 8
  pub places : length m.outs ≡ 8
  pub each : (a : ℕ) → IsHeld (held_by (replay m.kernel) a) (slice_index_or m.outs a None)

-- A tool has worked with what a processor holds: the world is that after the steps of its run, none of which is
-- refused.
pub record HasWorked (w u : World) (a j : ℕ) (l : HeldProcess) : Type 0 where
  pub held : held_by w a ≡ Some l
  pub accepted : AreAccepted w (steps_of a (held_run j l.out).0.0)
  pub world : u ≡ world_after_events w (steps_of a (held_run j l.out).0.0)
  pub out : held_by u a ≡ Some (record l { out = (held_run j l.out).1 })

-- one step of what a processor holds
abbrev pub hold_after_step : Option Out → Result Answer Refusal × Option Out
hold_after_step None = (Err CpuEmpty, None)
hold_after_step (Some o) =
    if at_stop o then (Err AtStop, Some o) else (Ok (Went (outcome_of_step o)), Some (out_after_step o))

-- who raises lines, lets the clock tick, kills and respawns is one of the actors
abbrev pub IsActor : World → ℕ → Event → Type 0
IsActor w a x = is_for_all x ≡ true → a < actors w

-- ---- what is recorded

abbrev pub steps_in : Answer → ℕ
steps_in (Returned n) = n
steps_in _ = 0

-- THE RECORD of an accepted event, by its answer: a step has none, and a return counts its steps
abbrev pub record_of : Event → Answer → Option Recorded
record_of Step y = None
record_of Take y = Some recorded.Take
record_of Back y = Some (recorded.Back (steps_in y))
record_of x y = Some (recorded_as x)

abbrev pub with_records : BootAndHistory → ℕ → Option Recorded → BootAndHistory
with_records k a None = k
with_records k a (Some e) = with_record k a e

-- the kernel after an event with this answer: a refusal doesn't change it
abbrev pub kept_after : BootAndHistory → ℕ → Event → Result Answer Refusal → BootAndHistory
kept_after k a x (Err r) = k
kept_after k a x (Ok y) = with_records k a (record_of x y)

-- and after events in a row, each with its answer
abbrev pub kept_along : BootAndHistory → List (ℕ × Event) → List (Result Answer Refusal) → BootAndHistory
kept_along k [] rs = k
kept_along k (x ∷ xs) [] = k
kept_along k (x ∷ xs) (r ∷ rs) = kept_along (kept_after k x.0 x.1 r) xs rs
