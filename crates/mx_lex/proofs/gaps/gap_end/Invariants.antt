use Rattle.std.proofs.Common.{ℕ, ◌≤◌, ◌-◌, length}
use Rattle.mx_lex.specs.Tokens.{Gap}
use Rattle.mx_lex.proofs.gaps.gap_end.Given as goal

-- whatever gap goes on from here goes on from the start
abbrev pub invariant-loop-at : goal.invariant-loop-at
invariant-loop-at l = record { within : l.at ≤ length l.bytes; gap : (b : ℕ) → Gap l.bytes l.at b → Gap l.bytes l.start b }

abbrev pub decreases-loop-at : goal.decreases-loop-at
decreases-loop-at l = length l.bytes - l.at
