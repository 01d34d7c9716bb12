use Rattle.std.proofs.Common.{ℕ, ◌≤◌, ◌-◌, length}
use Rattle.mx_lex.specs.Tokens.{Body}
use Rattle.mx_lex.proofs.text.quote_at.Given as goal

-- whatever body goes on from here goes on from the start
abbrev pub invariant-loop-byte : goal.invariant-loop-byte
invariant-loop-byte l = record { within : l.at ≤ length l.bytes; body : (b : ℕ) → Body l.bytes l.at b → Body l.bytes l.start b }

abbrev pub decreases-loop-byte : goal.decreases-loop-byte
decreases-loop-byte l = length l.bytes - l.at
