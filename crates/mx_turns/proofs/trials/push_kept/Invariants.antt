use Rattle.std.proofs.Common.{◌≡◌, ◌++◌, length}
use Rattle.mx_turns.specs.Sweep.{kept_text}
use Rattle.mx_turns.proofs.trials.push_kept.Given as goal

abbrev pub decreases-loop-line : goal.decreases-loop-line
decreases-loop-line l = length l.rest

abbrev pub invariant-loop-line : goal.invariant-loop-line
invariant-loop-line l = l.text.items ++ kept_text l.rest ≡ l.fn.text.items ++ kept_text l.bytes
