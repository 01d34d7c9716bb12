use Rattle.std.proofs.Common.{◌≡◌, ◌++◌}
use Rattle.std.specs.List.{flat_map, range_with_len}
use Rattle.mx_look_page.specs.Rows.{arrow_items}
use Rattle.mx_look_page.proofs.row.push_arrows.Given as goal

-- those so far
abbrev pub invariant-loop-slot : goal.invariant-loop-slot
invariant-loop-slot l = l.out.items ≡ l.initial.out.items ++ flat_map (arrow_items l.transition) (range_with_len 0 l.slot)
