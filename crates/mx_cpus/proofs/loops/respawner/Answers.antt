use Rattle.std.proofs.Common.{subst}
use Rattle.mx_cpus.specs.Gates.{unwatched}
use Rattle.mx_cpus.specs.Courses.{IsRespawnerRun}
use Rattle.mx_cpus.proofs.loops.respawner.Goals as goal

pub returns-clause-course : goal.returns-clause-course
returns-clause-course g c =
    subst (λ u. IsRespawnerRun g.M.Naming.boot (unwatched (g.G.Gate.was_called u.gate.now)) c.args.ticks c.args.seat c.make_rounds-seat.result.0) c.new-context.ensures c.make_rounds-seat.ensures.course
