use Rattle.std.proofs.Common.{◌≡◌, length}
use Rattle.mx_text.specs.Fields.{fields}
use Rattle.mx_app_explain.specs.TextAdvice.{next_sought}
use Rattle.mx_app_explain.proofs.text_advice.next_sought.Given as goal

abbrev pub invariant-loop-word : goal.invariant-loop-word
invariant-loop-word l = next_sought l.sought (fields l.rest) ≡ next_sought l.sought (fields l.line)

abbrev pub decreases-loop-word : goal.decreases-loop-word
decreases-loop-word l = length l.rest
