use Rattle.std.proofs.Common.{arith}
use Rattle.mx_decode.proofs.Answer.{takes_few}
use Rattle.mx_decode.proofs.single.decode_to.Goals as goal

pub overflow_sub-result : goal.overflow_sub-result
overflow_sub-result c = (takes_few c.args.bytes.now _ _ (λ i. omega (arith, c.type_inv.bytes i)) c.in-Ok.ensures).within

pub overflow_cast-result : goal.overflow_cast-result
overflow_cast-result c = let few = takes_few c.args.bytes.now _ _ (λ i. omega (arith, c.type_inv.bytes i)) c.in-Ok.ensures in omega (arith, few.few)
