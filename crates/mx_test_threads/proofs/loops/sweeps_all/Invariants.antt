use Rattle.std.proofs.Common.{◌≡◌}
use Rattle.mx_test_threads.proofs.loops.sweeps_all.Given as goal

abbrev pub invariant-loop-slot : goal.invariant-loop-slot
invariant-loop-slot g l = l.seat.table ≡ l.initial.seat.table

abbrev pub invariant-loop-slot-2 : goal.invariant-loop-slot-2
invariant-loop-slot-2 g l = l.seat.table ≡ l.initial.seat.table
