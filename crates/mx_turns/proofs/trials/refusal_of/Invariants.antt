use Rattle.std.proofs.Common.{◌≡◌, drop}
use Rattle.mx_turns.specs.Findings.{are_refused}
use Rattle.mx_turns.proofs.trials.refusal_of.Given as goal

-- those so far are refusals
abbrev pub invariant-loop-answer : goal.invariant-loop-answer
invariant-loop-answer l = are_refused l.said ≡ are_refused (drop l.answer-index l.said)
