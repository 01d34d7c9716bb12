use Rattle.std.proofs.Common.{◌≡◌, ◌-◌, ◌++◌, length}
use Rattle.mx_machine.specs.World.{actors}
use Rattle.mx_machine.specs.Machine.{world_of}
use Rattle.mx_walk.specs.Parts.{parts_between}
use Rattle.mx_walk.specs.Positions.{IsAt, IsPosition, IsUpTo, events_before}
use Rattle.mx_walk.specs.Seeking.{IsPassed}
use Rattle.mx_walk.proofs.searching_back.search_stretches.Given as goal

-- none of the events from the end on, where the next stretch ends, is marked
abbrev pub invariant-loop-earlier : goal.invariant-loop-earlier
invariant-loop-earlier g l = record {
  there : IsAt l.initial.machine.kernel.boot l.records l.at l.machine;
  reached : IsUpTo l.at l.here;
  position : IsPosition l.records l.end;
  early : IsUpTo l.end l.here;
  passed : IsPassed (g.M.Mark.marks l.initial.mark) l.initial.machine.kernel.boot l.records l.end l.here;
  mark : g.M.Mark.marks l.mark ≡ g.M.Mark.marks l.initial.mark;
  as_many : actors (world_of l.machine) ≡ actors l.initial.machine.kernel.boot;
  so_far : l.shown ≡ l.here.records - l.end.records;
  shown : g.P.Progress.shown l.progress ≡ g.P.Progress.shown l.initial.progress ++ parts_between (length l.records) 0 l.shown;
}

abbrev pub decreases-loop-earlier : goal.decreases-loop-earlier
decreases-loop-earlier g l = length (events_before l.records l.end)
