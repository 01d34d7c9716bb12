use Rattle.std.proofs.Common.{◌≡◌, ◌++◌}
use Rattle.std.specs.List.{flat_map, range_with_len}
use Rattle.mx_app_draw.specs.Shown.{shown_byte}
use Rattle.mx_app_draw.proofs.svg_text.push_shown.Given as goal

-- what is shown so far
abbrev pub invariant-loop-index : goal.invariant-loop-index
invariant-loop-index l = l.out.items ≡ l.initial.out.items ++ flat_map (shown_byte l.line) (range_with_len 0 l.index)
