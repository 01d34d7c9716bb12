use Rattle.std.proofs.Common.{◌≡◌, ◌∙◌, ◌-◌, ℕ, List, ap, arith, length, subst}
use Rattle.std.specs.Io.KnownBytes.{Appends}
use Rattle.mx_app_failure.specs.Failure.{PrintsFront}
use Rattle.mx_app_step.proofs.FrontLemmas.{err_always, front_after, front_all, front_more}
use Rattle.mx_machine.specs.Boot.{world_at_boot}
use Rattle.mx_app_turns.specs.Begun.{sweep_of}
use Rattle.mx_app_turns.proofs.SweptLemmas.{shown_failed}
use Rattle.mx_look_page.specs.Strips.{Strip}
use Rattle.mx_app_page.specs.Strips.{positions_text, strip_back_text}
use Rattle.mx_app_page.proofs.strips.print_below.Goals as goal

pub returns-in_err-how-clause-front : goal.returns-in_err-how-clause-front
returns-in_err-how-clause-front g c =
    let sweep = c.args.plan.sweep in
    let range = sweep.range in
    let s = sweep_of sweep (world_at_boot sweep.config.now c.args.services.items) in
    err_always c.from_residual.result _
    (front_more (λ t. Appends (g.W.Write.contents c.args.out.now) (g.W.Write.contents c.print_strip.new.out) t) (positions_text s (range.end - range.from) range.from) _ c.in_err-how.ensures.front)

pub returns-in_err-how-clause-shown : goal.returns-in_err-how-clause-shown
returns-in_err-how-clause-shown g c =
    let all = c.args.plan.sweep.range.end - c.args.plan.sweep.range.from in
    let h = c.in_err-how.ensures.shown in
    shown_failed (g.P.Progress.shown c.args.progress.now) (g.P.Progress.shown c.print_strip.new.progress) all h.0 _ c.from_residual.result c.from_residual.ensures.1 h.1 h.2

pub returns-in_err-back-clause-front : goal.returns-in_err-back-clause-front
returns-in_err-back-clause-front g c =
    let sweep = c.args.plan.sweep in
    let range = sweep.range in
    let s = sweep_of sweep (world_at_boot sweep.config.now c.args.services.items) in
    let Prints = λ (t : List ℕ). Appends (g.W.Write.contents c.args.out.now) (g.W.Write.contents c.print_strip.new.out) t in
    let lines = positions_text s (range.end - range.from) range.from in
    err_always c.from_residual-in_err-back.result _ (front_more Prints lines _ (front_all Prints lines c.in_ok-how.ensures.bytes))

pub returns-in_err-back-clause-shown : goal.returns-in_err-back-clause-shown
returns-in_err-back-clause-shown g c =
    let all = c.args.plan.sweep.range.end - c.args.plan.sweep.range.from in
    shown_failed (g.P.Progress.shown c.args.progress.now) (g.P.Progress.shown c.print_strip.new.progress) all all _ c.from_residual-in_err-back.result c.from_residual-in_err-back.ensures.1 (omega arith) c.in_ok-how.ensures.shown

pub returns-in_err-print_text-clause-front : goal.returns-in_err-print_text-clause-front
returns-in_err-print_text-clause-front g c =
    let sweep = c.args.plan.sweep in
    let range = sweep.range in
    let s = sweep_of sweep (world_at_boot sweep.config.now c.args.services.items) in
    let x = g.W.Write.contents c.args.out.now in
    let y = g.W.Write.contents c.print_strip.new.out in
    let z = g.W.Write.contents c.print_text.new.out in
    let back = c.as_slice.ensures.value ∙ c.in_ok-back.ensures ∙ ap (λ (t : Strip). strip_back_text (length sweep.records.now) t) c.strip_terms-strip.ensures in
    err_always c.from_residual-in_err-print_text.result _
    (front_after x y z (positions_text s (range.end - range.from) range.from) _ c.in_ok-how.ensures.bytes
    (subst (λ (t : List ℕ). PrintsFront (λ u. Appends y z u) t) back c.in_err-print_text.ensures.front))

pub returns-in_err-print_text-clause-shown : goal.returns-in_err-print_text-clause-shown
returns-in_err-print_text-clause-shown g c =
    let all = c.args.plan.sweep.range.end - c.args.plan.sweep.range.from in
    shown_failed (g.P.Progress.shown c.args.progress.now) (g.P.Progress.shown c.clear.new.self) all all _ c.from_residual-in_err-print_text.result c.from_residual-in_err-print_text.ensures.1 (omega arith)
    (c.clear.ensures ∙ c.in_ok-how.ensures.shown)
