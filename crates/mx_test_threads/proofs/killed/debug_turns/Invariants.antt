use Rattle.std.proofs.Common.{◌≡◌}
use Rattle.mx_test_threads.proofs.killed.debug_turns.Given as goal

abbrev pub invariant-loop-turn : goal.invariant-loop-turn
invariant-loop-turn g l = l.seat.table ≡ g.M.Naming.table
