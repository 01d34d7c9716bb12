use Rattle.mx_insn_words.proofs.Inverse.{operation_found}
use Rattle.mx_insn_words.proofs.start.operation_named.Goals as goal

pub returns : goal.returns
returns c = operation_found c.args.word.now c.find_word.result c.find_word.ensures
