use Rattle.std.proofs.Common.{◌≡◌, ◌++◌, drop}
use Rattle.mx_explore.specs.Outcomes.{state_lines}
use Rattle.mx_explore.proofs.outcomes.push_states.Given as goal

abbrev pub invariant-loop-slot : goal.invariant-loop-slot
invariant-loop-slot l = l.text.items ++ state_lines l.table l.slot (drop l.slot l.services) ≡ l.fn.text.items ++ state_lines l.table 0 l.services
