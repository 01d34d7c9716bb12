use Rattle.std.proofs.Common.{◌≡◌, ◌++◌}
use Rattle.std.specs.List.{flat_map, range_with_len}
use Rattle.mx_app_draw.specs.Strips.{came_at}
use Rattle.mx_app_draw.proofs.strips.push_came.Given as goal

-- the values so far
abbrev pub invariant-loop-index : goal.invariant-loop-index
invariant-loop-index l = l.out.items ≡ l.initial.out.items ++ flat_map (came_at l.scene l.strip) (range_with_len 0 l.index)
