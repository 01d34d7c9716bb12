use Rattle.std.proofs.Common.{◌≡◌, ◌++◌}
use Rattle.std.specs.List.{flat_map, range_with_len}
use Rattle.mx_look_page.specs.Rows.{kept_item}
use Rattle.mx_look_page.proofs.row.push_kept_between.Given as goal

-- those so far
abbrev pub invariant-loop-place : goal.invariant-loop-place
invariant-loop-place l = l.out.items ≡ l.initial.out.items ++ flat_map (kept_item l.slot l.before l.after) (range_with_len 0 l.place)
