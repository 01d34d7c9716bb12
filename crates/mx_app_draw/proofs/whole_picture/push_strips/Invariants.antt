use Rattle.std.proofs.Common.{◌≡◌, ◌++◌}
use Rattle.std.specs.List.{flat_map, range_with_len}
use Rattle.mx_app_draw.specs.Picture.{strip_of}
use Rattle.mx_app_draw.proofs.whole_picture.push_strips.Given as goal

-- the values so far
abbrev pub invariant-loop-index : goal.invariant-loop-index
invariant-loop-index l = l.out.items ≡ l.initial.out.items ++ flat_map (strip_of l.scene l.width l.count) (range_with_len 0 l.index)
