use Rattle.mx_asm.proofs.OneFault.{one_fault}
use Rattle.mx_asm.proofs.assembly_laws.fault_is_one.Goals as goal

pub returns : goal.returns
returns c = one_fault c.one_line.ensures c.line_or_fault.ensures.not_both c.one_fault.ensures
