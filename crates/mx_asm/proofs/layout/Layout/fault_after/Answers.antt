use Rattle.mx_asm.specs.View.{above_of}
use Rattle.mx_asm.proofs.Kept.{told_line, told_size}
use Rattle.mx_asm.proofs.layout.Layout.fault_after.Goals as goal

pub returns-in-Some-clause-fault : goal.returns-in-Some-clause-fault
returns-in-Some-clause-fault c ls kept laid = told_line (above_of c.args.self.now) c.args.lines.now c.args.count ls _ c.in-Some.fault kept laid c.first_problem.ensures c.in-Some.is

pub returns-in-None-clause-fault : goal.returns-in-None-clause-fault
returns-in-None-clause-fault c ls kept laid = told_size (above_of c.args.self.now) c.args.lines.now c.args.count ls _ c.fault_of_size.result kept laid c.first_problem.ensures c.in-None.is (c.fault_of_size.ensures.fault ls kept.1)
