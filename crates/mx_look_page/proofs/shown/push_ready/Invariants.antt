use Rattle.std.proofs.Common.{◌≡◌, ◌++◌}
use Rattle.std.specs.List.{flat_map, range_with_len}
use Rattle.mx_proc.specs.Queues.{list_at}
use Rattle.mx_look_page.proofs.shown.push_ready.Given as goal

-- those so far
abbrev pub invariant-loop-level : goal.invariant-loop-level
invariant-loop-level l = l.out.items ≡ l.initial.out.items ++ flat_map (list_at l.table.ready) (range_with_len 0 l.level)
