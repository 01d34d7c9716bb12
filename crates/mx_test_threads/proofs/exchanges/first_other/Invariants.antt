use Rattle.std.proofs.Common.{◌≡◌}
use Rattle.mx_test_threads.proofs.exchanges.first_other.Given as goal

abbrev pub invariant-loop-number : goal.invariant-loop-number
invariant-loop-number g l = (l.other.table ≡ g.M.Naming.table) × (l.processor.table ≡ g.M.Naming.table)
