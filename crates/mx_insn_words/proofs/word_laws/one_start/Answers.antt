use Rattle.mx_insn_words.proofs.Inverse.{one_start}
use Rattle.mx_insn_words.proofs.word_laws.one_start.Goals as goal

pub returns : goal.returns
returns c = one_start
