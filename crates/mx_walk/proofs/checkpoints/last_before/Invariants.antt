use Rattle.std.proofs.Common.{◌≡◌, ◌<◌, length, get_or, take}
use Rattle.std.specs.Option.{MatchOption}
use Rattle.mx_walk.specs.declared.checkpoints.Stored.{Stored}
use Rattle.mx_walk.specs.Checkpoints.{positions_of}
use Rattle.mx_walk.specs.Positions.{IsUpTo, first}
use Rattle.mx_walk.specs.Walks.{checkpoint_before}
use Rattle.mx_walk.proofs.checkpoints.last_before.Given as goal

-- the last of those so far
abbrev pub invariant-loop-index : goal.invariant-loop-index
invariant-loop-index l = MatchOption l.last (checkpoint_before (positions_of (take l.index l.checkpoints)) l.to ≡ first)
    (λ index. (index < length l.checkpoints) × ((d : Stored) → IsUpTo (get_or l.checkpoints index d).position l.to)
    × ((d : Stored) → (get_or l.checkpoints index d).position ≡ checkpoint_before (positions_of (take l.index l.checkpoints)) l.to))
