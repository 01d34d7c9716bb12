use Rattle.mx_walk.specs.Parts.{HasGrown}
use Rattle.mx_app_gdb.specs.Moves.{IsSteppedFrom, LeadsOn}
use Rattle.mx_app_gdb.proofs.HaltedOn.{OnWay, events_to, left_of}
use Rattle.mx_app_gdb.proofs.stepping.leave_range.Given as goal

-- what comes of where the walker is comes of where it began
abbrev pub invariant-loop-walker : goal.invariant-loop-walker
invariant-loop-walker g l = record {
  way : OnWay l.fn.walker l.halts (LeadsOn (IsSteppedFrom l.fn.walker l.halts l.slot l.range) l.fn.walker.here) l.walker l.halted;
  grown : HasGrown (g.P.Progress.shown l.fn.progress) (g.P.Progress.shown l.progress);
}

abbrev pub decreases-loop-walker : goal.decreases-loop-walker
decreases-loop-walker g l = left_of l.halted (events_to l.fn.walker l.walker.here)
