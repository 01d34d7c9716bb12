use Rattle.std.proofs.Common.{subst}
use Rattle.mx_cpus.specs.Gates.{unwatched}
use Rattle.mx_cpus.specs.Outsiders.{IsOutsiderRun}
use Rattle.mx_cpus.proofs.calling.outsider.Goals as goal

pub returns-clause-course : goal.returns-clause-course
returns-clause-course g c =
    subst (λ u. IsOutsiderRun g.M.Naming.boot (unwatched (g.G.Gate.was_called u.gate.now)) c.args.calls.now c.args.seat c.make_calls-seat.result.0) c.new-context.ensures c.make_calls-seat.ensures.course
