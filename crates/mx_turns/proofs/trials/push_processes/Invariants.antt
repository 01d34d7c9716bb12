use Rattle.std.proofs.Common.{◌≡◌, ◌++◌, drop}
use Rattle.mx_turns.specs.Sweep.{process_lines}
use Rattle.mx_turns.proofs.trials.push_processes.Given as goal

abbrev pub invariant-loop-slot : goal.invariant-loop-slot
invariant-loop-slot l = l.text.items ++ process_lines l.naming l.table l.slot (drop l.slot l.services) ≡ l.fn.text.items ++ process_lines l.naming l.table 0 l.services
