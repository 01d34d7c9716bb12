use Rattle.std.proofs.Common.{◌≡◌, length}
use Rattle.mx_text.specs.Fields.{fields}
use Rattle.mx_app_explain.specs.TextAdvice.{indexed_name}
use Rattle.mx_app_explain.proofs.text_advice.indexed_name.Given as goal

abbrev pub invariant-loop-word : goal.invariant-loop-word
invariant-loop-word l = indexed_name (fields l.rest) ≡ indexed_name (fields l.line)

abbrev pub decreases-loop-word : goal.decreases-loop-word
decreases-loop-word l = length l.rest
