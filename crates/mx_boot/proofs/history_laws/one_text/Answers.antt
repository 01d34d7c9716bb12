use Rattle.std.proofs.Common.{arith}
use Rattle.mx_boot.proofs.OneHistory.{one_of_history}
use Rattle.mx_boot.proofs.history_laws.one_text.Goals as goal

pub returns : goal.returns
returns c = λ r s a b x y. one_of_history c.one_history.ensures.one r s a b (c.history_again.ensures 256 r a (omega arith) x) (c.history_again.ensures 256 s b (omega arith) y)
