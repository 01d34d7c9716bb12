use Rattle.std.proofs.Common.{ℕ, ◌≤◌, ◌-◌, length}
use Rattle.std.specs.List.{All}
use Rattle.mx_lex.specs.Tokens.{Gap, IsOver, AreTokens, IsSlice}
use Rattle.mx_lex.proofs.token_reading.tokens_in.Given as goal

abbrev pub invariant-loop-at : goal.invariant-loop-at
invariant-loop-at l = record {
  within : l.at ≤ length l.bytes;
  over : IsOver l.bytes l.at;
  slices : All (IsSlice l.bytes) l.found.items;
  tokens : (b : ℕ) × AreTokens l.bytes 0 l.found.items b × Gap l.bytes b l.at;
}

abbrev pub decreases-loop-at : goal.decreases-loop-at
decreases-loop-at l = length l.bytes - l.at
