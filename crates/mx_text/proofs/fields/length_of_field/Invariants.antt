use Rattle.std.proofs.Common.{◌≤◌, ◌-◌, length}
use Rattle.mx_text.proofs.Parting.{AreNoSpaces}
use Rattle.mx_text.proofs.fields.length_of_field.Given as goal

abbrev pub invariant-loop-end : goal.invariant-loop-end
invariant-loop-end l = record { within : l.end ≤ length l.line; none : AreNoSpaces l.line l.end }

abbrev pub decreases-loop-end : goal.decreases-loop-end
decreases-loop-end l = length l.line - l.end
