use Rattle.std.proofs.Common.{◌≡◌, length}
use Rattle.mx_app_explain.specs.TextWords.{bad_escape}
use Rattle.mx_app_explain.proofs.text_words.bad_escape.Given as goal

abbrev pub invariant-loop-first : goal.invariant-loop-first
invariant-loop-first l = bad_escape l.rest ≡ bad_escape l.fn.word

abbrev pub decreases-loop-first : goal.decreases-loop-first
decreases-loop-first l = length l.rest
