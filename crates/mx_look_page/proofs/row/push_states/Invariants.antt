use Rattle.std.proofs.Common.{◌≡◌, ◌++◌}
use Rattle.std.specs.List.{flat_map, range_with_len}
use Rattle.mx_look.specs.Going.{gone_on}
use Rattle.mx_look_page.specs.Rows.{state_part}
use Rattle.mx_look_page.specs.Shown.{state_in}
use Rattle.mx_look_page.proofs.row.push_states.Given as goal

-- those so far
abbrev pub invariant-loop-slot : goal.invariant-loop-slot
invariant-loop-slot l = l.out.items ≡ l.initial.out.items ++ flat_map (λ s. state_part s (state_in l.before s) (state_in l.after s) (gone_on l.transition s)) (range_with_len 0 l.slot)
