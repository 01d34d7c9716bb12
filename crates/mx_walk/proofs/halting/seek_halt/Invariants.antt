use Rattle.std.proofs.Common.{◌≡◌, ◌-◌, ◌++◌, length}
use Rattle.mx_machine.specs.World.{actors}
use Rattle.mx_machine.specs.Machine.{world_of}
use Rattle.mx_walk.specs.Parts.{walk_between}
use Rattle.mx_walk.specs.Positions.{IsAt, IsUpTo, events_before}
use Rattle.mx_walk.specs.Seeking.{IsPassed}
use Rattle.mx_walk.specs.Stopping.{leaves_any}
use Rattle.mx_walk.proofs.halting.seek_halt.Given as goal

-- the machine is where the search has come, and on the way no event is marked and none leaves a place
abbrev pub invariant-loop-to : goal.invariant-loop-to
invariant-loop-to g l = record {
  there : IsAt l.initial.machine.kernel.boot l.records l.at l.machine;
  early : IsUpTo l.at l.to;
  later : IsUpTo l.initial.at l.at;
  passed : IsPassed (g.M.Mark.marks l.initial.mark) l.initial.machine.kernel.boot l.records l.initial.at l.at;
  unleft : IsPassed (leaves_any l.places) l.initial.machine.kernel.boot l.records l.initial.at l.at;
  mark : g.M.Mark.marks l.mark ≡ g.M.Mark.marks l.initial.mark;
  as_many : actors (world_of l.machine) ≡ actors (world_of l.initial.machine);
  shown : g.P.Progress.shown l.progress ≡ g.P.Progress.shown l.initial.progress ++ walk_between l.records l.initial.at l.at;
}

abbrev pub decreases-loop-to : goal.decreases-loop-to
decreases-loop-to g l = length (events_before l.records l.to) - length (events_before l.records l.at)
