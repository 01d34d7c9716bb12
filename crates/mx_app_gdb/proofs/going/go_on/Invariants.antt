use Rattle.mx_walk.specs.Parts.{HasGrown}
use Rattle.mx_app_gdb.specs.Moves.{IsHaltFrom}
use Rattle.mx_app_gdb.proofs.HaltedOn.{OnWay, events_to, left_of}
use Rattle.mx_app_gdb.proofs.SteppedOn.{ComesTo}
use Rattle.mx_app_gdb.proofs.going.go_on.Given as goal

-- what comes of where the walker is comes of the next event
abbrev pub invariant-loop-halted : goal.invariant-loop-halted
invariant-loop-halted g l = record {
  way : OnWay l.fn.walker l.halts (ComesTo l.fn.walker l.halts (IsHaltFrom l.fn.walker l.halts)) l.walker l.halted;
  grown : HasGrown (g.P.Progress.shown l.fn.progress) (g.P.Progress.shown l.progress);
}

abbrev pub decreases-loop-halted : goal.decreases-loop-halted
decreases-loop-halted g l = left_of l.halted (events_to l.fn.walker l.walker.here)
