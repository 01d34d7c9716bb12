use Rattle.std.proofs.Common.{◌≡◌, ◌++◌, ◌+◌, ◌-◌, drop, length}
use Rattle.mx_app_live.proofs.screen.push_from.Given as goal

abbrev pub decreases-loop-byte : goal.decreases-loop-byte
decreases-loop-byte l = length l.console.kept - l.index

-- what is left is to be appended
abbrev pub invariant-loop-byte : goal.invariant-loop-byte
invariant-loop-byte l = record {
  items : l.out.items ++ drop l.index l.console.kept ≡ l.fn.out.items ++ drop l.fn.first l.console.kept;
  counted : length l.out.items + l.fn.first ≡ length l.fn.out.items + l.index;
}
