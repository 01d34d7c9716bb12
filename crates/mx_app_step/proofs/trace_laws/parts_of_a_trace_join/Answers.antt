use Rattle.std.proofs.Common.{◌+◌, arith}
use Rattle.mx_app_step.proofs.PartLemmas.{parts_join}
use Rattle.mx_app_step.proofs.trace_laws.parts_of_a_trace_join.Goals as goal

pub returns : goal.returns
returns c = λ w records a b d first second. parts_join a w 1 b d records (b + 1) (omega arith) (omega (arith, first)) second
