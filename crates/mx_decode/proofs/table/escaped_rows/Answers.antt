use Rattle.std.proofs.Common.{◌∙◌, arith}
use Rattle.mx_decode.proofs.Map.{escaped_rows, no_rows_below, no_rows_past}
use Rattle.mx_decode.proofs.table.escaped_rows.Goals as goal

pub rows_from-requires : goal.rows_from-requires
rows_from-requires c = (escaped_rows c.args.opcode (omega arith) (omega arith)).within

pub returns : goal.returns
returns c = c.rows_from.ensures ∙ (escaped_rows c.args.opcode (omega arith) (omega arith)).same

pub returns-then-opcode-lt128 : goal.returns-then-opcode-lt128
returns-then-opcode-lt128 c = no_rows_below c.args.opcode (omega arith)

pub returns-then-place-ge64 : goal.returns-then-place-ge64
returns-then-place-ge64 c = no_rows_past c.args.opcode (omega arith) (omega arith)
