use Rattle.std.proofs.Common.{◌≡◌, ◌++◌, ◌+◌, ◌-◌, drop, length}
use Rattle.mx_print_report.proofs.reporting.push_console.Given as goal

abbrev pub decreases-loop-byte : goal.decreases-loop-byte
decreases-loop-byte l = length l.console.kept - l.index

abbrev pub invariant-loop-byte : goal.invariant-loop-byte
invariant-loop-byte l = record {
  items : l.out.items ++ drop l.index l.console.kept ≡ l.fn.out.items ++ l.console.kept;
  counted : length l.out.items ≡ length l.fn.out.items + l.index;
}
