use Rattle.std.proofs.Common.{◌≡◌, ◌++◌, ◌-◌, drop}
use Rattle.mx_look_page.specs.Shown.{waiting_order}
use Rattle.mx_look_page.proofs.shown.push_waiting.Given as goal

abbrev pub decreases-loop-slot : goal.decreases-loop-slot
decreases-loop-slot l = 32 - l.place

-- those so far, and the others
abbrev pub invariant-loop-slot : goal.invariant-loop-slot
invariant-loop-slot l = l.out.items ++ drop l.place (waiting_order l.table) ≡ l.initial.out.items ++ waiting_order l.table
