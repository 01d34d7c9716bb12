use Rattle.std.proofs.Common.{◌≡◌, ◌++◌}
use Rattle.std.specs.List.{flat_map, range_with_len}
use Rattle.mx_look.specs.Trace.{change_line, quantum_line}
use Rattle.mx_look.proofs.record.push_changes.Given as goal

-- the lines so far
abbrev pub invariant-loop-slot : goal.invariant-loop-slot
invariant-loop-slot l = l.out.items ≡ l.initial.out.items ++ flat_map (λ s. change_line l.transition s ++ quantum_line l.transition s) (range_with_len 0 l.slot)
