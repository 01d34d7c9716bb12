use Rattle.std.proofs.Common.{◌≡◌, ◌++◌}
use Rattle.std.specs.List.{flat_map, range_with_len}
use Rattle.mx_app_draw.specs.Messages.{kept_values}
use Rattle.mx_app_draw.proofs.came.push_all_kept.Given as goal

-- the values so far
abbrev pub invariant-loop-slot : goal.invariant-loop-slot
invariant-loop-slot l = l.out.items ≡ l.initial.out.items ++ flat_map (kept_values l.transition l.origin) (range_with_len 0 l.slot)
