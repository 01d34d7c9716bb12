use Rattle.std.proofs.Common.{◌≡◌, false, length}
use Rattle.mx_text.specs.Fields.{fields}
use Rattle.mx_app_explain.specs.TextAdvice.{late_register}
use Rattle.mx_app_explain.proofs.text_advice.late_register.Given as goal

abbrev pub invariant-loop-word : goal.invariant-loop-word
invariant-loop-word l = late_register l.valued l.starred (fields l.rest) ≡ late_register false false (fields l.line)

abbrev pub decreases-loop-word : goal.decreases-loop-word
decreases-loop-word l = length l.rest
