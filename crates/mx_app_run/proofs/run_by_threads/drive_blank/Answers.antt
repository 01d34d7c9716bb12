use Rattle.std.proofs.Common.{is_some, length, subst, sym}
use Rattle.mx_machine.specs.World.{World}
use Rattle.mx_app_run.specs.Run.{EndsDriven}
use Rattle.mx_app_run.specs.Shows.{shows}
use Rattle.mx_app_run.proofs.run_by_threads.drive_blank.Goals as goal

pub returns-in-Ok-clause-driven : goal.returns-in-Ok-clause-driven
returns-in-Ok-clause-driven g c =
    subst (λ (w : World). EndsDriven w (shows (g.P.SharedProgress.was_shown c.args.place.now.progress.now) c.args.log (is_some c.args.place.now.stop)) (length w.cpus) c.args.outside.ticks c.args.outside.calls.now c.in-Ok.whole c.args.seats.items c.into_kernel.result.history)
    (sym c.requires.boot) (c.in-Ok.seats.items, c.in-Ok.ensures.driven, c.in-Ok.ensures.served, c.in-Ok.ensures.whole, c.into_kernel.ensures.stands)
