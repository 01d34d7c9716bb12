use Rattle.std.proofs.Common.{◌≡◌, length}
use Rattle.std.specs.List.{slice_split}
use Rattle.mx_asm_statement.specs.Lists.{is_comma}
use Rattle.mx_asm_statement.specs.Data.{values_in}
use Rattle.mx_asm_statement.proofs.Valuing.{behind}
use Rattle.mx_asm_statement.proofs.data.data_of.Given as goal

abbrev pub invariant-loop-front : goal.invariant-loop-front
invariant-loop-front l = values_in l.size (slice_split is_comma l.items) ≡ behind l.found.items (values_in l.size (slice_split is_comma l.rest))

abbrev pub decreases-loop-front : goal.decreases-loop-front
decreases-loop-front l = length l.rest
