use Rattle.std.proofs.Common.{◌≡◌, ◌++◌}
use Rattle.std.specs.List.{flat_map, range_with_len}
use Rattle.mx_app_draw.specs.Bars.{bar_here}
use Rattle.mx_app_draw.proofs.bars.push_bars_of_slot.Given as goal

-- the values so far
abbrev pub invariant-loop-index : goal.invariant-loop-index
invariant-loop-index l = l.out.items ≡ l.initial.out.items ++ flat_map (bar_here l.scene l.strip l.slot) (range_with_len 0 l.index)
