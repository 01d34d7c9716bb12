use Rattle.std.proofs.Common.{◌≡◌, ◌++◌, drop}
use Rattle.mx_turns.specs.Sweep.{said_text}
use Rattle.mx_turns.proofs.trials.push_said.Given as goal

abbrev pub invariant-loop-answer : goal.invariant-loop-answer
invariant-loop-answer l = l.text.items ++ said_text (drop l.answer-index l.said) ≡ l.fn.text.items ++ said_text l.said
