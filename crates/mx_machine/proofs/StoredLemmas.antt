-- A kernel that is stored.
use Rattle.std.proofs.Common.{ℕ, ◌≤◌}
use Rattle.mx_machine.specs.Agrees.{IsAtReplay}
use Rattle.mx_machine.specs.History.{BootAndHistory}
use Rattle.mx_machine.specs.KernelState.{KernelState}

-- with other room for its records
pub with_room : (d : KernelState) (room more : ℕ) (k : BootAndHistory) → IsAtReplay d room k → d.capacity ≤ more → IsAtReplay d more k
with_room d room more k h space = record {
  present = h.present;
  records = h.records;
  space = space;
  accepted = h.accepted;
  sound = h.sound;
  few = h.few;
  as_many = h.as_many;
  written = h.written;
  fresh = h.fresh;
}
