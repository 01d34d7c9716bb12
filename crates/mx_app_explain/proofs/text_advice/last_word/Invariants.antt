use Rattle.std.proofs.Common.{◌≡◌, None, length}
use Rattle.std.specs.Prelude.{option_map}
use Rattle.mx_text.specs.Fields.{fields}
use Rattle.mx_app_explain.specs.TextAdvice.{last_word}
use Rattle.mx_app_explain.proofs.text_advice.last_word.Given as goal

abbrev pub invariant-loop-word : goal.invariant-loop-word
invariant-loop-word l = last_word (option_map (λ w. w.now) l.found) (fields l.rest) ≡ last_word None (fields l.line)

abbrev pub decreases-loop-word : goal.decreases-loop-word
decreases-loop-word l = length l.rest
