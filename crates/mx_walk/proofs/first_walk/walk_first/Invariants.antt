use Rattle.std.proofs.Common.{◌≡◌, ◌≤◌, ◌-◌, ◌++◌, length}
use Rattle.mx_machine.specs.World.{actors}
use Rattle.mx_machine.specs.Machine.{world_of}
use Rattle.mx_walk.specs.Checkpoints.{AreStored}
use Rattle.mx_walk.specs.Positions.{IsAt}
use Rattle.mx_walk.specs.Parts.{parts_between}
use Rattle.mx_walk.proofs.Along.{at}
use Rattle.mx_walk.proofs.first_walk.walk_first.Given as goal

-- the machine is below the records so far, each of which was shown
abbrev pub invariant-loop-earlier : goal.invariant-loop-earlier
invariant-loop-earlier g l = record {
  place : l.at ≡ at l.earlier 0;
  there : IsAt l.initial.machine.kernel.boot l.records l.at l.machine;
  as_many : actors (world_of l.machine) ≡ actors (world_of l.initial.machine);
  stored : AreStored l.initial.machine.kernel.boot l.records l.checkpoints.taken.items;
  few : length l.checkpoints.taken.items ≤ l.checkpoints.most - 1;
  most : l.checkpoints.most ≡ l.initial.checkpoints.most;
  shown : g.P.Progress.shown l.progress ≡ g.P.Progress.shown l.initial.progress ++ parts_between (length l.records) 0 l.earlier;
}
