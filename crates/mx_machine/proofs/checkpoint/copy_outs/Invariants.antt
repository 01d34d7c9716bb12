use Rattle.std.proofs.Common.{◌≡◌, take, length}
use Rattle.mx_machine.proofs.checkpoint.copy_outs.Given as goal

-- the first ones are copied
abbrev pub invariant-loop-cpu : goal.invariant-loop-cpu
invariant-loop-cpu l = record {
  so_far : take l.cpu l.copies ≡ take l.cpu l.outs;
  long : length l.copies ≡ length l.outs;
}
