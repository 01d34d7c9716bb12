use Rattle.std.proofs.Common.{All, length}
use Rattle.mx_lex.specs.Tokens.{IsSlice}
use Rattle.mx_asm_statement.proofs.Sorted.{GoesOn}
use Rattle.mx_asm_statement.proofs.sorting.items_of.Given as goal

abbrev pub invariant-loop-first : goal.invariant-loop-first
invariant-loop-first l = record { goes_on : GoesOn l.text l.tokens l.rest l.found.items; slices : All (IsSlice l.text) l.rest }

abbrev pub decreases-loop-first : goal.decreases-loop-first
decreases-loop-first l = length l.rest
