use Rattle.std.proofs.Common.{◌≡◌, ◌≤◌, ◌+◌, ◌*◌, ◌^◌, map}
use Rattle.std.specs.List.{range_with_len, sum_by}
use Rattle.mx_machine.specs.Machine.{world_of}
use Rattle.mx_walk.specs.Sizes.{image_at, slot_bytes}
use Rattle.mx_walk.proofs.checkpoints.checkpoint_bytes.Given as goal

-- the table, and the slots so far
abbrev pub invariant-loop-slot : goal.invariant-loop-slot
invariant-loop-slot l = record {
  value : l.bytes ≡ 65536 + sum_by slot_bytes (map (image_at (world_of l.machine)) (range_with_len 0 l.slot));
  few : l.bytes ≤ 65536 + l.slot * (4096 + 2 ^ 66);
}
