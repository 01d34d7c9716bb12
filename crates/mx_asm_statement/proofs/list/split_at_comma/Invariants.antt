use Rattle.std.proofs.Common.{◌≤◌, ◌-◌, length}
use Rattle.mx_asm_statement.proofs.Parting.{NoneBefore}
use Rattle.mx_asm_statement.proofs.list.split_at_comma.Given as goal

abbrev pub invariant-loop-at : goal.invariant-loop-at
invariant-loop-at l = record { within : l.at ≤ length l.items; none : NoneBefore l.items l.at }

abbrev pub decreases-loop-at : goal.decreases-loop-at
decreases-loop-at l = length l.items - l.at
