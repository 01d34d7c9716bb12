use Rattle.std.proofs.Common.{length}
use Rattle.mx_cpus.specs.Gates.{unwatched}
use Rattle.mx_cpus.proofs.DrivingLemmas.{all_driven, all_served}
use Rattle.mx_cpus.proofs.threads.drive.Goals as goal

pub returns-clause-driven : goal.returns-clause-driven
returns-clause-driven g c = all_driven (length g.M.Naming.boot.cpus) c.args.ticks c.args.seats.items c.in_ok-seats.seats.items c.in_ok-seats.ensures.driven

pub returns-clause-served : goal.returns-clause-served
returns-clause-served g c =
    all_served (length g.M.Naming.boot.cpus) c.args.ticks g.M.Naming.boot (unwatched (g.G.Gate.was_called c.args.gate.now)) c.args.seats.items c.in_ok-seats.seats.items c.in_ok-seats.ensures.served
