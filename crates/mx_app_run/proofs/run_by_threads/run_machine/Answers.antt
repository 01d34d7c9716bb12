use Rattle.std.proofs.Common.{is_some}
use Rattle.mx_app_run.proofs.RunLemmas.{run_of}
use Rattle.mx_app_run.proofs.run_by_threads.run_machine.Goals as goal

pub returns : goal.returns
returns g c =
    run_of (g.P.SharedProgress.was_shown c.args.place.now.progress.now) (is_some c.args.place.now.stop) c.args.config.now c.args.services.items c.args.outside.ticks c.args.outside.calls.now c.in_ok-kernel.whole c.in_ok-kernel.kernel c.in_ok-blank.blank.boot c.in_ok-blank.blank.table c.in_ok-blank.seats.items
    c.in_ok-blank.ensures.boot c.in_ok-blank.ensures.seats c.in_ok-kernel.ensures.boot c.in_ok-kernel.ensures.driven c.facts.ensures.accepted c.facts.ensures.written
