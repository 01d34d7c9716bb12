use Rattle.std.proofs.Common.{◌≡◌, List, length, map, false}
use Rattle.std.specs.List.{range_with_len}
use Rattle.mx_turns.specs.declared.outside.OutsideLine.{OutsideLine}
use Rattle.mx_machine.specs.Machine.{world_of}
use Rattle.mx_machine.specs.World.{actors}
use Rattle.mx_explore.specs.Passages.{passage, standing}
use Rattle.mx_explore.specs.Passing.{NewIn}
use Rattle.mx_explore.proofs.PassageLemmas.{At}
use Rattle.mx_explore.proofs.passing.pass_respawns.Given as goal

-- the slots so far are past
abbrev pub invariant-loop-slot : goal.invariant-loop-slot
invariant-loop-slot l = record {
  passed : (coming : List OutsideLine) → passage l.machine coming (standing l.schedule) false ≡ At l.start (passage l.initial.machine coming (standing l.initial.schedule) false) (map NewIn (range_with_len 0 l.slot));
  cpus : length (world_of l.machine).cpus ≡ length (world_of l.initial.machine).cpus;
  actors : actors (world_of l.machine) ≡ actors (world_of l.initial.machine);
}
