use Rattle.std.proofs.Common.{refl}
use Rattle.mx_encode.specs.Forms.{has_form}
use Rattle.mx_asm_statement.specs.Instructions.{instruction_of}
use Rattle.mx_asm_statement.proofs.Spelled.{given}
use Rattle.mx_asm_statement.proofs.instruction.Instruction.new.Goals as goal

pub returns : goal.returns
unfolding instruction_of
returns c = given c.args.insn c.args.immediate c.args.displacement _ (has_form c.args.insn) refl
