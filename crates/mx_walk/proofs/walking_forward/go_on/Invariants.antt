use Rattle.std.proofs.Common.{◌≡◌, ◌++◌, length}
use Rattle.mx_machine.specs.World.{actors}
use Rattle.mx_machine.specs.Machine.{world_of}
use Rattle.mx_walk.specs.Positions.{IsAt, IsUpTo}
use Rattle.mx_walk.specs.Parts.{parts_between}
use Rattle.mx_walk.proofs.Along.{at}
use Rattle.mx_walk.proofs.walking_forward.go_on.Given as goal

-- the machine is below the records so far, each of which was shown, and not below where it is to go
abbrev pub invariant-loop-done : goal.invariant-loop-done
invariant-loop-done g l = record {
  there : IsAt l.initial.machine.kernel.boot l.records (at l.done l.steps) l.machine;
  early : IsUpTo (at l.done l.steps) l.to;
  later : IsUpTo l.fn.from (at l.done l.steps);
  as_many : actors (world_of l.machine) ≡ actors (world_of l.initial.machine);
  shown : g.P.Progress.shown l.progress ≡ g.P.Progress.shown l.initial.progress ++ parts_between (length l.records) l.fn.from.records l.done;
}
