use Rattle.std.proofs.Common.{◌≡◌, ◌<◌, false, length}
use Rattle.mx_machine.specs.Machine.{world_of}
use Rattle.mx_machine.specs.World.{actors}
use Rattle.mx_turns.specs.Made.{HasOffered}
use Rattle.mx_turns.specs.Turns.{offered}
use Rattle.mx_app_live.proofs.KeyboardLemmas.{first_events}
use Rattle.mx_app_live.proofs.keyboard.raise.Given as goal

-- the lines of the bits so far are raised
abbrev pub invariant-loop-bit : goal.invariant-loop-bit
invariant-loop-bit l = record {
  offered : HasOffered l.initial.machine (offered (world_of l.initial.machine) (first_events (length (world_of l.initial.machine).cpus) l.raise.byte l.bit)) false l.machine;
  cpus : length (world_of l.machine).cpus ≡ length (world_of l.initial.machine).cpus;
  other : length (world_of l.machine).cpus < actors (world_of l.machine);
}
