use Rattle.std.proofs.Common.{◌≡◌, length}
use Rattle.mx_test_threads.proofs.machine.services.Given as goal

abbrev pub invariant-loop-slot : goal.invariant-loop-slot
invariant-loop-slot l = length l.services.items ≡ l.slot
