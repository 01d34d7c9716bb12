use Rattle.mx_insn_words.proofs.Inverse.{all_sizes, size_found}
use Rattle.mx_insn_words.proofs.registers.size_named.Goals as goal

pub returns : goal.returns
unfolding all_sizes
returns c = size_found c.args.word.now c.find_word.result c.find_word.ensures
