use Rattle.std.proofs.Common.{◌≡◌, length}
use Rattle.std.specs.List.{slice_split}
use Rattle.mx_asm_statement.specs.Lists.{is_comma, each_of, arguments_of}
use Rattle.mx_asm_statement.proofs.Parting.{behind}
use Rattle.mx_asm_statement.proofs.list.arguments_of.Given as goal

abbrev pub invariant-loop-front : goal.invariant-loop-front
invariant-loop-front l = arguments_of l.items ≡ behind l.found.items (each_of (slice_split is_comma l.rest))

abbrev pub decreases-loop-front : goal.decreases-loop-front
decreases-loop-front l = length l.rest
