use Rattle.std.proofs.Common.{◌≡◌, length}
use Rattle.mx_text.specs.Fields.{fields}
use Rattle.mx_app_explain.specs.TextAdvice.{escape_in}
use Rattle.mx_app_explain.proofs.text_advice.escape_in.Given as goal

abbrev pub invariant-loop-word : goal.invariant-loop-word
invariant-loop-word l = escape_in (fields l.rest) ≡ escape_in (fields l.line)

abbrev pub decreases-loop-word : goal.decreases-loop-word
decreases-loop-word l = length l.rest
