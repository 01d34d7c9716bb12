use Rattle.std.proofs.Common.{◌≡◌, ◌++◌, ◌-◌, drop}
use Rattle.mx_proc.specs.Queues.{list_at}
use Rattle.mx_look_page.proofs.shown.push_level.Given as goal

abbrev pub decreases-loop-slot : goal.decreases-loop-slot
decreases-loop-slot l = 32 - l.place

-- those so far, and the others
abbrev pub invariant-loop-slot : goal.invariant-loop-slot
invariant-loop-slot l = l.out.items ++ drop l.place (list_at l.table.ready l.level) ≡ l.initial.out.items ++ list_at l.table.ready l.level
