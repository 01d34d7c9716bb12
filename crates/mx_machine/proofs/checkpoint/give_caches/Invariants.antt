use Rattle.std.proofs.Common.{◌≡◌}
use Rattle.mx_machine.proofs.checkpoint.give_caches.Given as goal

-- nothing that a contract sees has changed
abbrev pub invariant-loop-cpu : goal.invariant-loop-cpu
invariant-loop-cpu l = record {
  kernel : l.kernel ≡ l.initial.kernel;
  outs : l.outs ≡ l.initial.outs;
}
