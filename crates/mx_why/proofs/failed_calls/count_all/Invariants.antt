use Rattle.std.proofs.Common.{◌≡◌}
use Rattle.std.specs.Prelude.{fold}
use Rattle.std.specs.List.{range_with_len}
use Rattle.mx_machine.specs.Machine.{world_of}
use Rattle.mx_why.specs.FailedCalls.{counted_of}
use Rattle.mx_why.proofs.failed_calls.count_all.Given as goal

-- those of the slots so far are counted
abbrev pub invariant-loop-slot : goal.invariant-loop-slot
invariant-loop-slot l = l.calls.items ≡ fold (counted_of (world_of l.machine) l.transition) l.initial.calls.items (range_with_len 0 l.slot)
