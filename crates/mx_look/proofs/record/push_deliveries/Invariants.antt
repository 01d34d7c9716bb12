use Rattle.std.proofs.Common.{◌≡◌, ◌++◌}
use Rattle.std.specs.List.{flat_map, range_with_len}
use Rattle.mx_look.specs.Trace.{delivery_line}
use Rattle.mx_look.proofs.record.push_deliveries.Given as goal

-- the lines so far
abbrev pub invariant-loop-slot : goal.invariant-loop-slot
invariant-loop-slot l = l.out.items ≡ l.initial.out.items ++ flat_map (delivery_line l.transition) (range_with_len 0 l.slot)
