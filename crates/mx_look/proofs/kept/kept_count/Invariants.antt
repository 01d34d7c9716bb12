use Rattle.std.proofs.Common.{◌≤◌, ◌<◌, ◌-◌, length}
use Rattle.mx_look.proofs.kept.kept_count.Given as goal

-- at least `low` are recorded, and none from `high` on
abbrev pub invariant-loop-low : goal.invariant-loop-low
invariant-loop-low l = record {
  order : l.low ≤ l.high;
  most : l.high ≤ 1024;
  some : l.low ≤ length l.table.deliveries;
  none : l.high < 1024 → length l.table.deliveries ≤ l.high;
}

abbrev pub decreases-loop-low : goal.decreases-loop-low
decreases-loop-low l = l.high - l.low
