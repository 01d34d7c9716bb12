use Rattle.std.proofs.Common.{◌∙◌, arith}
use Rattle.mx_decode.proofs.Map.{one_byte_rows}
use Rattle.mx_decode.proofs.table.plain_rows.Goals as goal

pub rows_from-requires : goal.rows_from-requires
rows_from-requires c = (one_byte_rows c.args.opcode (omega arith)).within

pub returns : goal.returns
returns c = c.rows_from.ensures ∙ (one_byte_rows c.args.opcode (omega arith)).same
