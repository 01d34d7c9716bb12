use Rattle.std.proofs.Common.{◌≤◌, ◌-◌, length}
use Rattle.mx_text.proofs.Parting.{AreSpaces}
use Rattle.mx_text.proofs.fields.spaces_at_front.Given as goal

abbrev pub invariant-loop-start : goal.invariant-loop-start
invariant-loop-start l = record { within : l.start ≤ length l.line; all : AreSpaces l.line l.start }

abbrev pub decreases-loop-start : goal.decreases-loop-start
decreases-loop-start l = length l.line - l.start
