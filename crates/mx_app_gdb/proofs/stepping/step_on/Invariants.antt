use Rattle.mx_walk.specs.Parts.{HasGrown}
use Rattle.mx_walk.specs.Positions.{IsPosition, IsUpTo}
use Rattle.mx_app_gdb.proofs.HaltedOn.{events_to, left_of}
use Rattle.mx_app_gdb.proofs.SteppedOn.{OnSteps}
use Rattle.mx_app_gdb.proofs.stepping.step_on.Given as goal

-- the steps from where the walker is are those from where it began
abbrev pub invariant-loop-halted : goal.invariant-loop-halted
invariant-loop-halted g l = record {
  way : OnSteps l.fn.walker l.halts l.slot l.range l.walker l.halted;
  position : IsPosition l.fn.walker.records l.walker.here;
  early : IsUpTo l.walker.here l.fn.walker.last;
  grown : HasGrown (g.P.Progress.shown l.fn.progress) (g.P.Progress.shown l.progress);
}

abbrev pub decreases-loop-halted : goal.decreases-loop-halted
decreases-loop-halted g l = left_of l.halted (events_to l.fn.walker l.walker.here)
