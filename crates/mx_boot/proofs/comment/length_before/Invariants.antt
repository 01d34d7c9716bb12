use Rattle.std.proofs.Common.{◌≤◌, ◌-◌, length}
use Rattle.mx_boot.proofs.Comments.{AreNone}
use Rattle.mx_boot.proofs.comment.length_before.Given as goal

abbrev pub invariant-loop-end : goal.invariant-loop-end
invariant-loop-end l = record { within : l.end ≤ length l.line; none : AreNone l.byte l.line l.end }

abbrev pub decreases-loop-end : goal.decreases-loop-end
decreases-loop-end l = length l.line - l.end
