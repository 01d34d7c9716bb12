use Rattle.std.proofs.Common.{length, ◌-◌, ◌≡◌, ◌≤◌, take}
use Rattle.mx_mem.specs.Segment.{with_bytes_at}
use Rattle.mx_mem.proofs.segment.Segment.put_across.Given as goal

abbrev pub invariant-loop-done : goal.invariant-loop-done
invariant-loop-done l = record {
  value : l.self ≡ with_bytes_at l.fn.self l.at (take l.done l.bytes);
  within : l.done ≤ length l.bytes;
  long : length l.self ≡ length l.fn.self;
}

abbrev pub decreases-loop-done : goal.decreases-loop-done
decreases-loop-done l = length l.bytes - l.done
