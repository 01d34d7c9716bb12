use Rattle.std.proofs.Common.{◌≢◌, ℕ, ◌≤◌, ◌<◌, ◌-◌, length, get_or}
use Rattle.mx_lex.proofs.gaps.line_feed_at.Given as goal

abbrev pub invariant-loop-at : goal.invariant-loop-at
invariant-loop-at l = record { from : l.start ≤ l.at; within : l.at ≤ length l.bytes; run : (k : ℕ) → l.start ≤ k → k < l.at → get_or l.bytes k 0 ≢ 10 }

abbrev pub decreases-loop-at : goal.decreases-loop-at
decreases-loop-at l = length l.bytes - l.at
