use Rattle.mx_asm_statement.proofs.Total.{not_both, neither}
use Rattle.mx_asm_statement.proofs.line_laws.line_or_fault.Goals as goal

pub returns-clause-not_both : goal.returns-clause-not_both
returns-clause-not_both c = not_both c.reading_or_fault.ensures.not_both

pub returns-clause-not_neither : goal.returns-clause-not_neither
returns-clause-not_neither c = neither c.reading_or_fault.ensures.not_neither
