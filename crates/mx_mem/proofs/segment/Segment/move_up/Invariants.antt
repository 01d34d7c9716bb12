use Rattle.std.proofs.Common.{◌≡◌, ◌+◌, ◌-◌, ◌≤◌, length}
use Rattle.mx_mem.specs.Segment.{with_bytes_at, part}
use Rattle.mx_mem.proofs.segment.Segment.move_up.Given as goal

abbrev pub invariant-loop-left : goal.invariant-loop-left
invariant-loop-left l = record {
  value : l.self ≡ with_bytes_at l.fn.self (l.to + l.left) (part l.fn.self (l.from + l.left) (l.count - l.left));
  within : l.left ≤ l.count;
  long : length l.self ≡ length l.fn.self;
  buffer : length l.buffer ≡ 4096;
}

abbrev pub decreases-loop-left : goal.decreases-loop-left
decreases-loop-left l = l.left
