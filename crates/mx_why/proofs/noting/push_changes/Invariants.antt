use Rattle.std.proofs.Common.{◌≡◌, ◌++◌}
use Rattle.std.specs.List.{flat_map, range_with_len}
use Rattle.mx_why.specs.Noting.{change_note}
use Rattle.mx_why.proofs.noting.push_changes.Given as goal

-- the notes so far
abbrev pub invariant-loop-slot : goal.invariant-loop-slot
invariant-loop-slot l = l.notes.items ≡ l.initial.notes.items ++ flat_map (change_note l.transition) (range_with_len 0 l.slot)
