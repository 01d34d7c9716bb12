-- CHECKPOINTS along a history (our own).
use Rattle.std.specs.Prelude.{◌≡◌, ◌≤◌, ℕ, ◌+◌, ◌-◌, List, All, IfSome, Option, Some, None, length, map, take}
use Rattle.mx_machine.specs.declared.history.Record.{Record}
use Rattle.mx_machine.specs.Machine.{world_of}
use Rattle.mx_machine.specs.World.{World, actors}
use Rattle.mx_walk.specs.Positions.{IsAt}
use Rattle.mx_walk.specs.Sizes.{most_checkpoints}
use Rattle.mx_walk.specs.declared.checkpoints.Stored.{Stored}
use Rattle.mx_walk.specs.declared.checkpoints.Stock.{Stock}
use Rattle.mx_walk.specs.declared.positions.Position.{Position}

-- A checkpoint is of a machine at its position, and the history of that machine is the records before the position.
pub record IsStored (boot : World) (records : List Record) (s : Stored) : Type 0 where
  pub there : IsAt boot records s.position s.checkpoint
  pub as_many : actors (world_of s.checkpoint) ≡ actors boot
  pub history : s.checkpoint.kernel.history ≡ take s.position.records records

-- each of these is one
abbrev pub AreStored : World → List Record → List Stored → Type 0
AreStored boot records stored = All (IsStored boot records) stored

-- where they are
abbrev pub positions_of : List Stored → List Position
positions_of stored = map (λ (s : Stored). s.position) stored

abbrev pub count : Option Stored → ℕ
count None = 0
count (Some s) = 1

-- The checkpoints of a walker: those along its history and the near one are no more than there may be, and one is left
-- for a near one.
pub record IsStock (boot : World) (records : List Record) (s : Stock) : Type 0 where
  pub along : AreStored boot records s.along.items
  pub near : IfSome s.near (IsStored boot records)
  pub most : s.most ≡ most_checkpoints boot
  pub few : length s.along.items + count s.near ≤ s.most
  pub spare : length s.along.items ≤ s.most - 1
