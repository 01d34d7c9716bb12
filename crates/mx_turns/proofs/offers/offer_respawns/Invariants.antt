use Rattle.std.proofs.Common.{◌≡◌, false}
use Rattle.mx_machine.specs.World.{actors}
use Rattle.mx_machine.specs.Machine.{world_of}
use Rattle.mx_turns.specs.Made.{HasOffered}
use Rattle.mx_turns.specs.Turns.{offered, respawns}
use Rattle.mx_turns.proofs.offers.offer_respawns.Given as goal

-- the slots so far were offered theirs
abbrev pub invariant-loop-slot : goal.invariant-loop-slot
invariant-loop-slot l = record {
  offered : HasOffered l.initial.machine (offered (world_of l.initial.machine) (respawns l.other l.slot)) false l.machine;
  as_many : actors (world_of l.machine) ≡ actors (world_of l.initial.machine);
}
