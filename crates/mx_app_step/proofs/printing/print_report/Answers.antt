use Rattle.std.proofs.Common.{◌≡◌, List, ℕ, IfErr, OnOk, ap, subst}
use Rattle.std.specs.Io.KnownBytes.{Appends}
use Rattle.mx_machine.specs.History.{BootAndHistory, replay}
use Rattle.mx_app_start.specs.Failure.{PrintsFront}
use Rattle.mx_app_start.specs.Machine.{MachineState, world_of}
use Rattle.mx_app_start.specs.Report.{report_text}
use Rattle.mx_app_step.proofs.printing.print_report.Goals as goal

-- the world of a machine has its kernel's table and services
report_same : (k : BootAndHistory) (m : MachineState) → k ≡ m.kernel → report_text (replay k).table (replay k).services ≡ report_text (world_of m).table (world_of m).services
unfolding world_of
report_same k m e = ap (λ (x : BootAndHistory). report_text (replay x).table (replay x).services) e

pub returns-clause-bytes : goal.returns-clause-bytes
returns-clause-bytes g c =
    let text = report_same c.kernel.result.now c.args.machine.now c.kernel.ensures in
    subst (λ (t : List ℕ). OnOk c.print_kernel_report.result (Appends (g.W.Write.contents c.args.out.now) (g.W.Write.contents c.print_kernel_report.new.out) t)) text c.print_kernel_report.ensures.bytes

pub returns-clause-front : goal.returns-clause-front
returns-clause-front g c =
    let text = report_same c.kernel.result.now c.args.machine.now c.kernel.ensures in
    let x = g.W.Write.contents c.args.out.now in
    let y = g.W.Write.contents c.print_kernel_report.new.out in
    subst (λ (t : List ℕ). IfErr c.print_kernel_report.result (λ _. PrintsFront (λ front. Appends x y front) t)) text c.print_kernel_report.ensures.front
