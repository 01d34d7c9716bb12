use Rattle.std.proofs.Common.{arith}
use Rattle.std.proofs.lemmas.Int.{to_z-of_z}
use Rattle.mx_alu.proofs.products.signed_product.Goals as goal

pub returns-clause-value : goal.returns-clause-value
returns-clause-value c = grind (arith, to_z-of_z)

pub returns-clause-outside : goal.returns-clause-outside
returns-clause-outside c = grind (arith, to_z-of_z)
