use Rattle.std.proofs.Common.{subst}
use Rattle.mx_machine.specs.Machine.{IsMachineState}
use Rattle.mx_machine.proofs.machine.Machine.facts.Goals as goal

pub returns : goal.returns
returns c = subst IsMachineState c.self.view_is c.self.invariant
