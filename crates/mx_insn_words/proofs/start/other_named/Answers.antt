use Rattle.mx_insn_words.proofs.Inverse.{other_found}
use Rattle.mx_insn_words.proofs.start.other_named.Goals as goal

pub returns : goal.returns
returns c = other_found c.args.word.now c.find_word.result c.find_word.ensures
