use Rattle.std.proofs.Common.{◌≡◌, false, length}
use Rattle.mx_text.specs.Fields.{fields}
use Rattle.mx_app_explain.specs.TextAdvice.{value_mark}
use Rattle.mx_app_explain.proofs.text_advice.value_mark.Given as goal

abbrev pub invariant-loop-word : goal.invariant-loop-word
invariant-loop-word l = value_mark l.inside l.number (fields l.rest) ≡ value_mark false false (fields l.line)

abbrev pub decreases-loop-word : goal.decreases-loop-word
decreases-loop-word l = length l.rest
