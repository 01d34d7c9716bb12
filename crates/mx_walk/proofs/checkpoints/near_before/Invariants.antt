use Rattle.mx_walk.specs.Positions.{IsPosition, IsUpTo}
use Rattle.mx_walk.proofs.checkpoints.near_before.Given as goal

-- a position that isn't after the one that is wanted
abbrev pub invariant-loop-at : goal.invariant-loop-at
invariant-loop-at l = record {
  position : IsPosition l.records l.at;
  early : IsUpTo l.at l.fn.to;
}

abbrev pub decreases-loop-at : goal.decreases-loop-at
decreases-loop-at l = l.at.records
