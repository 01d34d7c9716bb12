use Rattle.mx_walk.proofs.Arriving.{at_first}
use Rattle.mx_walk.proofs.resuming.machine_again.Goals as goal

pub returns-in_ok-again-in-None-clause-there : goal.returns-in_ok-again-in-None-clause-there
returns-in_ok-again-in-None-clause-there c =
    let again = c.in_ok-again-in-None in
    at_first c.args.origin.records.now c.args.machine.kernel.boot again.again again.ensures.0 again.ensures.1
