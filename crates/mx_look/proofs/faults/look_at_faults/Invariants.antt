use Rattle.std.proofs.Common.{◌≡◌, ℕ, ◌<◌, length, get_or, None}
use Rattle.mx_machine.specs.Machine.{world_of}
use Rattle.mx_look.specs.Faults.{fault_glance}
use Rattle.mx_look.proofs.faults.look_at_faults.Given as goal

-- the places so far
abbrev pub invariant-loop-cpu : goal.invariant-loop-cpu
invariant-loop-cpu l = record {
  long : length l.faults ≡ 8;
  filled : (k : ℕ) → k < l.cpu → get_or l.faults k None ≡ fault_glance (world_of l.machine) k;
}
