-- Events that a machine made, and the outside events of its turns.
use Rattle.std.specs.Prelude.{ℕ, ◌≡◌, ◌++◌, Bool, true, false, List, Result, Err, replicate}
use Rattle.mx_machine.specs.declared.events.Answer.{Answer}
use Rattle.mx_machine.specs.declared.events.Event.{Event}
use Rattle.mx_machine.specs.declared.events.Event.TheVariants.{Tick}
use Rattle.mx_machine.specs.declared.events.Refusal.{Refusal}
use Rattle.mx_machine.specs.declared.events.Refusal.TheVariants.{LogFull}
use Rattle.mx_machine.specs.History.{AreAccepted, world_after_events}
use Rattle.mx_machine.specs.Move.{moves}
use Rattle.mx_machine.specs.Machine.{MachineState, kept_along, world_of}
use Rattle.mx_turns.specs.declared.outside.Outside.{Outside}
use Rattle.mx_turns.specs.declared.outside.OutsideLine.{OutsideLine}
use Rattle.mx_turns.specs.declared.outside.OutsideLine.TheVariants.{Plain}
use Rattle.mx_turns.specs.Turns.{Offered}

-- From m the machine made these events, each of which was accepted, and became n; its history is longer by their
-- records.
pub record HasMade (m : MachineState) (xs : List (ℕ × Event)) (n : MachineState) : Type 0 where
  pub accepted : AreAccepted (world_of m) xs
  pub world : world_of n ≡ world_after_events (world_of m) xs
  pub kernel : n.kernel ≡ kept_along m.kernel xs (moves (world_of m) xs).0

-- From m the machine made what came of these offers, and became n; `is_full` says whether the history was too full
-- for one.
pub record HasOffered (m : MachineState) (o : Offered) (is_full : Bool) (n : MachineState) : Type 0 where
  pub made : HasMade m o.made n
  pub full : o.full ≡ is_full

-- an event was refused because the history is full
abbrev pub is_full : Result Answer Refusal → Bool
is_full (Err LogFull) = true
is_full _ = false

-- what is to come from outside: the lines of the list, and then the ticks
abbrev pub outside_events : Outside → List OutsideLine
outside_events o = o.events.now ++ replicate o.ticks (Plain Tick)
