-- Steps of a process that is on a processor.
use Rattle.std.specs.Prelude.{◌≡◌, ◌≤◌, ℕ, ◌+◌, ◌-◌, min}
use Rattle.mx_image.specs.Image.{Image}
use Rattle.mx_image.specs.Outcome.{Outcome}
use Rattle.mx_image.specs.Outcome.TheVariants.{Go, Trap, Fault}
use Rattle.mx_image.specs.Step.{one_step}
use Rattle.mx_image.specs.declared.runs.Stop.{Stop}
use Rattle.mx_image.specs.declared.runs.Stop.TheVariants as stop
use Rattle.mx_image.specs.Run.{run_of, RunEnd}
use Rattle.mx_machine.specs.declared.holding.Out.{Out}

-- ---- a run

-- what a run gives: how many steps it made and how they ended; and what the processor holds after it
abbrev pub out_after_run : Out → RunEnd → (ℕ × Stop) × Out
out_after_run o r = ((r.count, r.stop), record o { image = r.image; count = o.count + r.count; stop = r.stop })

-- a run of at most k steps, by how the step before it ended; o.budget - o.count is what the budget leaves
abbrev pub run_by_stop : Stop → ℕ → Out → (ℕ × Stop) × Out
run_by_stop stop.Spent k o = out_after_run o (run_of (min k (o.budget - o.count)) o.image)
run_by_stop stop.Trap k o = ((0, stop.Trap), o)
run_by_stop (stop.Fault v) k o = ((0, stop.Fault v), o)

-- A RUN of at most k steps: no more than the budget leaves, and none after a trap or a fault
unfoldable pub held_run : ℕ → Out → (ℕ × Stop) × Out
held_run k o = run_by_stop o.stop k o

-- a run of at most k steps after a first run: the steps of both, added, and how the second run ended
abbrev pub then_held : (ℕ × Stop) × Out → ℕ → (ℕ × Stop) × Out
then_held first k = let second = held_run k first.1 in ((first.0.0 + second.0.0, second.0.1), second.1)

-- A processor was lent `lent` and brings back `out`. A run of out.count steps turns `lent` into `out`.
pub record IsBack (lent out : Out) : Type 0 where
  pub run : (held_run out.count lent).1 ≡ out

-- What the processor holds (`out`) at any time before its Back is what was lent, after some steps of it; the
-- steps are within the budget.
pub record IsRunOf (lent out : Out) : Type 0 where
  pub back : IsBack lent out
  pub within : out.count ≤ out.budget

-- ---- one step

-- how a step ended, as the stop of a run: Spent if the process can go on
abbrev pub stop_of_outcome : Outcome → Stop
stop_of_outcome Go = stop.Spent
stop_of_outcome Trap = stop.Trap
stop_of_outcome (Fault v) = stop.Fault v

-- what a processor holds after a step with this outcome and image: one more step is counted
abbrev pub out_after_outcome : Out → Outcome × Image → Out
out_after_outcome o went = record o { image = went.1; count = o.count + 1; stop = stop_of_outcome went.0 }

-- A STEP: what a processor holds after it
unfoldable pub out_after_step : Out → Out
out_after_step o = out_after_outcome o (one_step o.image)

-- how that step ends: Go, Trap, or Fault with a vector
unfoldable pub outcome_of_step : Out → Outcome
outcome_of_step o = (one_step o.image).0
