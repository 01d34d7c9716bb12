use Rattle.std.proofs.Common.{ap, subst, sym}
use Rattle.std.proofs.KnownBytes.{Appends-trans}
use Rattle.std.proofs.lemmas.Result.{IfErr-weaker, on_ok_weaker}
use Rattle.std.specs.Io.KnownBytes.{Appends}
use Rattle.mx_app_start.specs.Failure.{PrintsFront}
use Rattle.mx_app_start.specs.Report.{report_text}
use Rattle.mx_machine.specs.World.{World}
use Rattle.mx_app_step.specs.Driving.{Driven, driven, lines_done, lines_text}
use Rattle.mx_app_step.proofs.FrontLemmas.{err_always, front_after, front_more}
use Rattle.mx_app_step.proofs.driving_lines.print_lines.Goals as goal

pub returns-clause-printed : goal.returns-clause-printed
returns-clause-printed g c =
    let other = c.args.lines.now.other in
    let lines = c.args.lines.now.lines.now in
    let d = driven c.args.machine.now c.args.performer.now in
    let e = lines_done (g.P.Performs.does other) d lines in
    let x = g.W.Write.contents c.args.out.now in
    let y = g.W.Write.contents c.print_said.new.out in
    let z = g.W.Write.contents c.print_report.new.out in
    let world = ap (λ (s : Driven _). s.world) (sym c.in_ok-print_said.ensures.done) in
    on_ok_weaker c.print_report.result
    (λ b. Appends-trans x y z (lines_text (g.P.Performs.does other) (g.P.Performs.prints other) c.args.lines.now.numbered 1 d lines) (report_text e.world.table e.world.services)
    c.in_ok-print_said.ensures.printed (subst (λ (w : World). Appends y z (report_text w.table w.services)) world b))
    c.print_report.ensures.bytes

pub returns-in_err-print_said-clause-front : goal.returns-in_err-print_said-clause-front
returns-in_err-print_said-clause-front g c =
    let other = c.args.lines.now.other in
    let lines = c.args.lines.now.lines.now in
    let d = driven c.args.machine.now c.args.performer.now in
    let e = lines_done (g.P.Performs.does other) d lines in
    err_always c.from_residual.result _
    (front_more _ (lines_text (g.P.Performs.does other) (g.P.Performs.prints other) c.args.lines.now.numbered 1 d lines) (report_text e.world.table e.world.services) c.in_err-print_said.ensures.front)

pub returns-clause-front : goal.returns-clause-front
returns-clause-front g c =
    let other = c.args.lines.now.other in
    let lines = c.args.lines.now.lines.now in
    let d = driven c.args.machine.now c.args.performer.now in
    let e = lines_done (g.P.Performs.does other) d lines in
    let x = g.W.Write.contents c.args.out.now in
    let y = g.W.Write.contents c.print_said.new.out in
    let z = g.W.Write.contents c.print_report.new.out in
    let world = ap (λ (s : Driven _). s.world) (sym c.in_ok-print_said.ensures.done) in
    IfErr-weaker c.print_report.result _ _
    (λ f b. front_after x y z (lines_text (g.P.Performs.does other) (g.P.Performs.prints other) c.args.lines.now.numbered 1 d lines) (report_text e.world.table e.world.services)
    c.in_ok-print_said.ensures.printed (subst (λ (w : World). PrintsFront (λ t. Appends y z t) (report_text w.table w.services)) world b))
    c.print_report.ensures.front
