use Rattle.mx_asm_statement.proofs.Unique.{one_line}
use Rattle.mx_asm_statement.proofs.line_laws.one_line.Goals as goal

pub returns : goal.returns
returns c = one_line (record { start = c.one_start.ensures; register = c.one_register_or_size.ensures.register; size = c.one_register_or_size.ensures.size; not_both = c.one_register_or_size.ensures.not_both }) c.one_reading.ensures
