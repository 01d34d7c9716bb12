use Rattle.std.proofs.Common.{◌≡◌, false, length}
use Rattle.mx_text.specs.Fields.{fields}
use Rattle.mx_app_explain.specs.TextAdvice.{extra_word}
use Rattle.mx_app_explain.proofs.text_advice.extra_word.Given as goal

abbrev pub invariant-loop-word : goal.invariant-loop-word
invariant-loop-word l = extra_word l.ended (fields l.rest) ≡ extra_word false (fields l.line)

abbrev pub decreases-loop-word : goal.decreases-loop-word
decreases-loop-word l = length l.rest
