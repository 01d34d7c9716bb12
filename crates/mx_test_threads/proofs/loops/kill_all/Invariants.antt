use Rattle.std.proofs.Common.{◌≡◌}
use Rattle.mx_test_threads.proofs.loops.kill_all.Given as goal

abbrev pub invariant-loop-endpoint : goal.invariant-loop-endpoint
invariant-loop-endpoint g l = l.seat.table ≡ l.initial.seat.table
