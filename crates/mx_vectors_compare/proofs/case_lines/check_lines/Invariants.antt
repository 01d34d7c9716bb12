use Rattle.std.proofs.Common.{◌≤◌}
use Rattle.mx_vectors_compare.proofs.case_lines.check_lines.Given as goal

abbrev pub invariant-loop-line : goal.invariant-loop-line
invariant-loop-line g l = l.tally.wrong ≤ l.tally.cases
