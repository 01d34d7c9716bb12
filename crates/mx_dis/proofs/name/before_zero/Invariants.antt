use Rattle.std.proofs.Common.{◌-◌, ◌≤◌, length}
use Rattle.mx_dis.proofs.Naming.{GoesOn}
use Rattle.mx_dis.proofs.name.before_zero.Given as goal

abbrev pub invariant-loop-end : goal.invariant-loop-end
invariant-loop-end l = record { within : l.end ≤ length l.name; front : GoesOn l.name l.end }

abbrev pub decreases-loop-end : goal.decreases-loop-end
decreases-loop-end l = length l.name - l.end
