use Rattle.std.proofs.Common.{◌∙◌, List, ap, is_some, subst}
use Rattle.mx_cpus.specs.declared.outside.OutsideCall.{OutsideCall}
use Rattle.mx_app_run.specs.Run.{IsRun, run_ending}
use Rattle.mx_app_run.proofs.run_by_threads.drive_begun.Goals as goal

pub returns-clause-run : goal.returns-clause-run
returns-clause-run g c =
    let b = c.args.begun in
    subst (λ (l : List OutsideCall). IsRun (g.P.SharedProgress.was_shown c.args.place.now.progress.now) (is_some c.args.place.now.stop) b.config b.services.items c.args.ticks l c.in_ok-kernel.whole c.in_ok-kernel.kernel) c.as_slice.ensures.value c.in_ok-kernel.ensures

pub returns-clause-ending : goal.returns-clause-ending
returns-clause-ending g c =
    c.ending_of-ending.ensures ∙ ap (λ (l : List OutsideCall). run_ending c.args.begun.config.log c.args.ticks l c.in_ok-kernel.whole c.in_ok-kernel.kernel) c.as_slice.ensures.value
