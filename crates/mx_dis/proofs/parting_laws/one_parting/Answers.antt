use Rattle.std.proofs.Common.{length, arith}
use Rattle.mx_dis.proofs.Partings.{one_parting, some_parting}
use Rattle.mx_dis.proofs.parting_laws.one_parting.Goals as goal

pub returns-clause-some : goal.returns-clause-some
returns-clause-some c t b = some_parting (length t) t (omega arith) b

pub returns-clause-one : goal.returns-clause-one
returns-clause-one c = one_parting
