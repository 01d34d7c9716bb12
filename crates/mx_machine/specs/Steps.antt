-- A run as Step events of a processor.
use Rattle.std.specs.Prelude.{◌≡◌, ◌≤◌, ◌+◌, ℕ, List, replicate, Some}
use Rattle.mx_machine.specs.declared.events.Event.{Event}
use Rattle.mx_machine.specs.declared.events.Event.TheVariants.{Step}
use Rattle.mx_machine.specs.declared.holding.Out.{Out}
use Rattle.mx_machine.specs.History.{AreAccepted, world_after_events}
use Rattle.mx_machine.specs.Move.{with_held}
use Rattle.mx_machine.specs.World.{World, HeldProcess}

-- n Step events of processor a
abbrev pub steps_of : ℕ → ℕ → List (ℕ × Event)
steps_of a n = replicate n (a, Step)

-- For a processor a that holds l at world w: the machine accepts n Steps of a, and then a holds `out`.
pub record StepsTo (w : World) (a n : ℕ) (l : HeldProcess) (out : Out) : Type 0 where
  pub accepted : AreAccepted w (steps_of a n)
  pub after : world_after_events w (steps_of a n) ≡ with_held w a (Some (record l { out = out }))
  -- the n steps are counted, the count is within the budget, and the budget stays as it was
  pub count : out.count ≡ l.out.count + n
  pub within : out.count ≤ l.out.budget
  pub budget : out.budget ≡ l.out.budget
