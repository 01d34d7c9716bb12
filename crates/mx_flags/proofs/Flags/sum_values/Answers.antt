use Rattle.std.proofs.Common.{arith}
use Rattle.std.proofs.lemmas.Int.{to_z-of_z}
use Rattle.mx_flags.proofs.Flags.sum_values.Goals as goal

pub returns : goal.returns
returns c = grind (arith, to_z-of_z)
