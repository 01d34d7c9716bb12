use Rattle.std.proofs.Common.{◌≡◌, ◌++◌, length}
use Rattle.mx_lex.specs.Bytes.{text_value}
use Rattle.mx_lex.proofs.text.text_bytes.Given as goal

abbrev pub invariant-loop-first : goal.invariant-loop-first
invariant-loop-first l = l.bytes.items ++ text_value l.rest ≡ text_value l.fn.body

abbrev pub decreases-loop-first : goal.decreases-loop-first
decreases-loop-first l = length l.rest
