use Rattle.std.proofs.Common.{◌≡◌, false, length}
use Rattle.mx_text.specs.Fields.{fields}
use Rattle.mx_app_explain.specs.TextAdvice.{joined_name}
use Rattle.mx_app_explain.proofs.text_advice.joined_name.Given as goal

abbrev pub invariant-loop-word : goal.invariant-loop-word
invariant-loop-word l = joined_name l.named l.signed (fields l.rest) ≡ joined_name false false (fields l.line)

abbrev pub decreases-loop-word : goal.decreases-loop-word
decreases-loop-word l = length l.rest
