use Rattle.mx_aout.proofs.OneProgram.{alike_same}
use Rattle.mx_asm.proofs.Deciding.{one_program}
use Rattle.mx_asm.proofs.assembly_laws.program_is_one.Goals as goal

pub returns : goal.returns
returns c t p q made other = alike_same p q (one_program c.one_line.ensures c.one_chosen.ensures t p q made other)
