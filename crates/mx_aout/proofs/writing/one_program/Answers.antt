use Rattle.mx_aout.proofs.OneProgram.{one_of_file}
use Rattle.mx_aout.proofs.writing.one_program.Goals as goal

pub returns : goal.returns
returns c = one_of_file
