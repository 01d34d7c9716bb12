use Rattle.std.proofs.Common.{◌≡◌, ◌++◌}
use Rattle.std.specs.List.{flat_map, range_with_len}
use Rattle.mx_look.specs.Trace.{kept_line}
use Rattle.mx_look.proofs.pending.push_kept_between.Given as goal

-- the lines so far
abbrev pub invariant-loop-place : goal.invariant-loop-place
invariant-loop-place l = l.out.items ≡ l.initial.out.items ++ flat_map (kept_line l.transition l.before l.after) (range_with_len 0 l.place)
