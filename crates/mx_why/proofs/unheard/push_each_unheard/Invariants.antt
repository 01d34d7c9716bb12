use Rattle.std.proofs.Common.{◌≡◌, ◌++◌}
use Rattle.std.specs.List.{flat_map, range_with_len}
use Rattle.mx_why.specs.Unheard.{unheard_line_at}
use Rattle.mx_why.proofs.unheard.push_each_unheard.Given as goal

-- the parts so far
abbrev pub invariant-loop-slot : goal.invariant-loop-slot
invariant-loop-slot l = l.out.items ≡ l.initial.out.items ++ flat_map (unheard_line_at l.end l.notes l.found) (range_with_len 0 l.slot)
