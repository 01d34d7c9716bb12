use Rattle.std.proofs.Common.{◌≡◌, length}
use Rattle.mx_asm_statement.specs.Lines.{any_long}
use Rattle.mx_asm_statement.proofs.statement_reading.any_long.Given as goal

abbrev pub invariant-loop-first : goal.invariant-loop-first
invariant-loop-first l = any_long l.items ≡ any_long l.rest

abbrev pub decreases-loop-first : goal.decreases-loop-first
decreases-loop-first l = length l.rest
