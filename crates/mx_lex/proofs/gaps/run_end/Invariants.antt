use Rattle.std.proofs.Common.{◌≤◌, ◌-◌, length}
use Rattle.mx_text.specs.Bytes.{is_word_byte}
use Rattle.mx_lex.specs.Bytes.{AllFrom}
use Rattle.mx_lex.proofs.gaps.run_end.Given as goal

abbrev pub invariant-loop-at : goal.invariant-loop-at
invariant-loop-at l = record { from : l.start ≤ l.at; within : l.at ≤ length l.bytes; run : AllFrom is_word_byte l.bytes l.start l.at }

abbrev pub decreases-loop-at : goal.decreases-loop-at
decreases-loop-at l = length l.bytes - l.at
