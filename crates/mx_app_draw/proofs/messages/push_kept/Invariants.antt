use Rattle.std.proofs.Common.{◌≡◌, ◌++◌}
use Rattle.std.specs.List.{flat_map, range_with_len}
use Rattle.mx_app_draw.specs.Messages.{kept_arrow}
use Rattle.mx_app_draw.proofs.messages.push_kept.Given as goal

-- the values so far
abbrev pub invariant-loop-place : goal.invariant-loop-place
invariant-loop-place l = l.out.items ≡ l.initial.out.items ++ flat_map (kept_arrow l.transition l.origin l.slot) (range_with_len 0 l.place)
