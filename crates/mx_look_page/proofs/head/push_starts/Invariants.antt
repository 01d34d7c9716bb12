use Rattle.std.proofs.Common.{◌≡◌, ◌++◌}
use Rattle.std.specs.List.{flat_map, range_with_len}
use Rattle.mx_look_page.specs.Shown.{state_in}
use Rattle.mx_look_page.specs.Heads.{start_item}
use Rattle.mx_look_page.proofs.head.push_starts.Given as goal

-- those so far
abbrev pub invariant-loop-slot : goal.invariant-loop-slot
invariant-loop-slot l = l.out.items ≡ l.initial.out.items ++ flat_map (λ s. start_item s (state_in l.shown s)) (range_with_len 0 l.slot)
