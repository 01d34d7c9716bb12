use Rattle.mx_insn_words.proofs.Inverse.{all_registers, register_found}
use Rattle.mx_insn_words.proofs.registers.register_named.Goals as goal

pub returns : goal.returns
unfolding all_registers
returns c = register_found c.args.word.now c.find_word.result c.find_word.ensures
