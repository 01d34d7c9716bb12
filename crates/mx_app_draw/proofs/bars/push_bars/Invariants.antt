use Rattle.std.proofs.Common.{◌≡◌, ◌++◌}
use Rattle.std.specs.List.{flat_map, range_with_len}
use Rattle.mx_app_draw.specs.Bars.{bars_of_slot}
use Rattle.mx_app_draw.proofs.bars.push_bars.Given as goal

-- the values so far
abbrev pub invariant-loop-slot : goal.invariant-loop-slot
invariant-loop-slot l = l.out.items ≡ l.initial.out.items ++ flat_map (bars_of_slot l.scene l.strip) (range_with_len 0 l.slot)
