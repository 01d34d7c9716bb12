use Rattle.std.proofs.Common.{◌≡◌, List, length, map, Bool}
use Rattle.std.specs.List.{range_with_len}
use Rattle.mx_turns.specs.declared.outside.OutsideLine.{OutsideLine}
use Rattle.mx_machine.specs.Machine.{world_of}
use Rattle.mx_machine.specs.World.{actors}
use Rattle.mx_explore.specs.Passages.{passage, standing}
use Rattle.mx_explore.specs.Passing.{BackBy}
use Rattle.mx_explore.proofs.PassageLemmas.{At}
use Rattle.mx_explore.proofs.passing.pass_backs.Given as goal

-- the processors so far are past
abbrev pub invariant-loop-cpu : goal.invariant-loop-cpu
invariant-loop-cpu l = record {
  passed : (coming : List OutsideLine) (is_full : Bool) → passage l.machine coming (standing l.schedule) is_full ≡ At l.start (passage l.initial.machine coming (standing l.initial.schedule) is_full) (map BackBy (range_with_len 0 l.cpu));
  cpus : length (world_of l.machine).cpus ≡ length (world_of l.initial.machine).cpus;
  actors : actors (world_of l.machine) ≡ actors (world_of l.initial.machine);
}
