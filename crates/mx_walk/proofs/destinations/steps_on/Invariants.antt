use Rattle.std.proofs.Common.{◌≡◌, ◌-◌}
use Rattle.mx_walk.specs.Positions.{IsPosition, IsUpTo}
use Rattle.mx_walk.specs.Moves.{steps_on}
use Rattle.mx_walk.proofs.destinations.steps_on.Given as goal

-- the events that are left lead to where all of them lead
abbrev pub invariant-loop : goal.invariant-loop
invariant-loop l = record {
  left : steps_on (l.count - l.counter) l.walker l.at ≡ steps_on l.count l.walker l.walker.here;
  position : IsPosition l.walker.records l.at;
  early : IsUpTo l.at l.walker.last;
}
