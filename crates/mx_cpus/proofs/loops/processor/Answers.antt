use Rattle.std.proofs.Common.{subst}
use Rattle.mx_cpus.specs.Gates.{unwatched}
use Rattle.mx_cpus.specs.Courses.{IsProcessorRun}
use Rattle.mx_cpus.proofs.loops.processor.Goals as goal

pub returns-clause-course : goal.returns-clause-course
returns-clause-course g c =
    subst (λ u. IsProcessorRun g.M.Naming.boot (unwatched (g.G.Gate.was_called u.gate.now)) c.args.seat c.make_turns-seat.result.0) c.new-context.ensures c.make_turns-seat.ensures.course
