-- A walk along a history (our own).
use Rattle.std.specs.Prelude.{◌≡◌, ◌<◌, ◌≤◌, ℕ, List, [], ◌∷◌, All, filter, length, Option, Some, None, if◌then◌else◌}
use Rattle.mx_machine.specs.declared.config.Config.{Config}
use Rattle.mx_machine.specs.declared.events.Event.{Event}
use Rattle.mx_machine.specs.declared.events.Refusal.{Refusal}
use Rattle.mx_machine.specs.declared.history.Record.{Record}
use Rattle.mx_machine.specs.Boot.{world_at_boot}
use Rattle.mx_machine.specs.History.{AreAccepted}
use Rattle.mx_machine.specs.Move.{event_refusal}
use Rattle.mx_machine.specs.World.{World, actors}
use Rattle.mx_machine.specs.Machine.{MachineState, world_of}
use Rattle.mx_walk.specs.declared.positions.Position.{Position}
use Rattle.mx_walk.specs.declared.progress.Part.{Part}
use Rattle.mx_walk.specs.Parts.{walk_between}
use Rattle.mx_walk.specs.Positions.{IsAt, IsPosition, IsStuck, IsUpTo, next_event, events_before, first, is_up_to, world_at}

-- A WALK: where the history begins, its records, where the walker is, the last position that it can come to, and
-- the positions of its checkpoints, in order, from which it can go on without a walk from the first
pub record Walk : Type 0 where
  pub boot : World
  pub records : List Record
  pub here : Position
  pub last : Position
  pub checkpoints : List Position

-- ---- where a walk begins

-- the last of these positions; p if there is none
abbrev pub last_or : Position → List Position → Position
last_or p [] = p
last_or p (q ∷ qs) = last_or q qs

-- WHERE A WALK BACK BEGINS: at the last checkpoint that isn't after where it goes; at the first position if none is
abbrev pub checkpoint_before : List Position → Position → Position
checkpoint_before checkpoints to = last_or first (filter (λ p. is_up_to p to) checkpoints)

-- WHERE A WALK BEGINS: where the walker is, if it goes on from there; else where a walk back begins
abbrev pub start_to : Walk → Position → Position
start_to k to = if is_up_to k.here to then k.here else checkpoint_before k.checkpoints to

-- ---- what is shown on the way

-- WHAT A WALKER SHOWS on its way to a position: each record between where the walk begins and that position, once
abbrev pub shown_to : Walk → Position → List Part
shown_to k to = walk_between k.records (start_to k to) to

-- and on its way from one position to another
abbrev pub shown_way : Walk → Position → Position → List Part
shown_way k p q = shown_to (record k { here = p }) q

-- ---- the world that is shown

-- THE WORLD that a walker shows: that after the records before it and the steps of the next
abbrev pub world_here : Walk → World
world_here k = world_at k.boot k.records k.here

-- why a world refuses an event, if it does
abbrev pub refusal_of : World → Option (ℕ × Event) → Option Refusal
refusal_of w None = None
refusal_of w (Some x) = event_refusal w x.0 x.1

-- WHY THE EVENT AFTER a walker's position is refused there, if it is
abbrev pub refusal_here : Walk → Option Refusal
refusal_here k = refusal_of (world_here k) (next_event k.records k.here)

-- this world is that of a configuration's boot
pub record IsBootOf (c : Config) (w : World) : Type 0 where
  pub booted : w ≡ world_at_boot c w.services
  pub some : 0 < length w.services
  pub few : length w.services ≤ 32

-- THE LAST POSITION of a history: each event before it was accepted, and none can be made there
pub record IsLast (boot : World) (records : List Record) (p : Position) : Type 0 where
  pub position : IsPosition records p
  pub accepted : AreAccepted boot (events_before records p)
  pub stuck : IsStuck boot records p

-- What always holds of a walker.
pub record IsWalk (m : MachineState) (c : Config) (k : Walk) : Type 0 where
  pub there : IsAt k.boot k.records k.here m
  pub early : IsUpTo k.here k.last
  pub last : IsLast k.boot k.records k.last
  pub by_actors : All (λ (x : Record). x.actor < actors k.boot) k.records
  pub as_many : actors (world_of m) ≡ actors k.boot
  pub booted : IsBootOf c k.boot
