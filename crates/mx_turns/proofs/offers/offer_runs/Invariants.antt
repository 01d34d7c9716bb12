use Rattle.std.proofs.Common.{◌≡◌, false}
use Rattle.mx_machine.specs.World.{actors}
use Rattle.mx_machine.specs.Machine.{world_of}
use Rattle.mx_turns.specs.Made.{HasOffered}
use Rattle.mx_turns.specs.Turns.{offered, runs}
use Rattle.mx_turns.proofs.offers.offer_runs.Given as goal

-- the processors so far were offered theirs
abbrev pub invariant-loop-cpu : goal.invariant-loop-cpu
invariant-loop-cpu l = record {
  offered : HasOffered l.initial.machine (offered (world_of l.initial.machine) (runs l.cpu)) false l.machine;
  as_many : actors (world_of l.machine) ≡ actors (world_of l.initial.machine);
}
