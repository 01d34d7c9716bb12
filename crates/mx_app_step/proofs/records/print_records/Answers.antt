use Rattle.std.proofs.Common.{subst}
use Rattle.std.specs.Io.KnownBytes.{Appends}
use Rattle.mx_app_start.specs.Failure.{PrintsFront}
use Rattle.mx_app_start.specs.Machine.{world_of}
use Rattle.mx_app_start.specs.Report.{report_text}
use Rattle.mx_machine.specs.World.{World}
use Rattle.mx_app_step.specs.declared.records.Replayed.TheVariants.{Whole}
use Rattle.mx_app_step.proofs.FrontLemmas.{err_always}
use Rattle.mx_app_step.proofs.ReplayLemmas.{whole_printed}
use Rattle.mx_app_step.proofs.records.print_records.Goals as goal

pub returns-in_ok-print_report-in-Ok-clause-printed : goal.returns-in_ok-print_report-in-Ok-clause-printed
returns-in_ok-print_report-in-Ok-clause-printed g c =
    let done = c.in-Ok.ensures.ok in
    whole_printed (g.W.Write.contents c.args.out.now) (g.W.Write.contents c.print_report.new.out) c.args.records.now (world_of c.args.machine.now) (world_of c.perform_records.new.machine) done.0 done.1 c.in_ok-print_report-in-Ok.ensures.bytes

pub returns-in_err-print_report-in-Ok-clause-begun : goal.returns-in_err-print_report-in-Ok-clause-begun
returns-in_err-print_report-in-Ok-clause-begun g c =
    let done = c.in-Ok.ensures.ok in
    err_always c.from_residual.result _
    (Whole, (done.0, subst (λ (u : World). PrintsFront (λ t. Appends (g.W.Write.contents c.args.out.now) (g.W.Write.contents c.print_report.new.out) t) (report_text u.table u.services)) done.1 c.in_err-print_report-in-Ok.ensures.front))
