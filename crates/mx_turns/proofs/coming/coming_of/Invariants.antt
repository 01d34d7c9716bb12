use Rattle.std.proofs.Common.{◌≡◌, ◌++◌, drop}
use Rattle.mx_turns.specs.Sweep.{coming}
use Rattle.mx_turns.proofs.coming.coming_of.Given as goal

abbrev pub invariant-loop-entry : goal.invariant-loop-entry
invariant-loop-entry l = l.events.items ++ coming (drop l.entry-index l.records) ≡ coming l.records
