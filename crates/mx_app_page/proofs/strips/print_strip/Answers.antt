use Rattle.std.proofs.Common.{◌≡◌, ◌∙◌, ◌-◌, ◌+◌, ℕ, List, IfErr, IfOk, OnOk, ap, arith, refl, subst, sym}
use Rattle.std.proofs.lemmas.List.{append-nil}
use Rattle.std.proofs.lemmas.Result.{IfOk-weaker}
use Rattle.std.specs.Io.KnownBytes.{Appends}
use Rattle.mx_app_failure.specs.Failure.{PrintsFront}
use Rattle.mx_app_step.proofs.FrontLemmas.{err_always, front_none}
use Rattle.mx_machine.specs.Boot.{world_at_boot}
use Rattle.mx_machine.specs.History.{BootAndHistory}
use Rattle.mx_machine.specs.World.{World}
use Rattle.mx_turns.specs.Ahead.{IsTold, boot_of}
use Rattle.mx_turns.specs.Swept.{IsSwept}
use Rattle.mx_turns.specs.declared.trials.Findings.{Findings}
use Rattle.mx_app_turns.specs.Begun.{sweep_of}
use Rattle.mx_app_turns.specs.Sweeping.{findings_at, refusal_at, text_at}
use Rattle.mx_app_turns.specs.declared.blocks.Total.{Total}
use Rattle.mx_app_turns.proofs.SweptLemmas.{shown_failed}
use Rattle.mx_app_page.specs.Strips.{AreCounts, positions_text}
use Rattle.mx_app_page.proofs.StripLemmas.{ending_is, nothing_counted, nothing_printed, nothing_shown}
use Rattle.mx_app_page.proofs.strips.print_strip.Goals as goal

-- ---- no position

pub returns-then-sweep-clause-bytes : goal.returns-then-sweep-clause-bytes
returns-then-sweep-clause-bytes g c =
    let sweep = c.args.plan.sweep in
    nothing_printed (sweep_of sweep (world_at_boot sweep.config.now c.args.services.items)) sweep.range.from sweep.range.end (g.W.Write.contents c.args.out.now) c.if-sweep.true

pub returns-then-sweep-clause-ended : goal.returns-then-sweep-clause-ended
returns-then-sweep-clause-ended g c =
    let sweep = c.args.plan.sweep in
    let s = sweep_of sweep (world_at_boot sweep.config.now c.args.services.items) in
    let range = sweep.range in
    ending_is s c.args.plan.wanted.from c.args.plan.wanted.to range.from range.end c.requires.from c.requires.end c.none.result (nothing_counted s range.from range.end c.none.result c.if-sweep.true c.none.ensures)
    c.how_ended.result _ (λ some. absurd (omega (arith, some, c.if-sweep.true))) c.how_ended.ensures

pub returns-then-sweep-clause-shown : goal.returns-then-sweep-clause-shown
returns-then-sweep-clause-shown g c =
    let range = c.args.plan.sweep.range in
    nothing_shown (g.P.Progress.shown c.args.progress.now) range.from range.end c.if-sweep.true

-- ---- machines that boot as the one of the rows

pub new-requires-clause-swept : goal.new-requires-clause-swept
new-requires-clause-swept g c =
    let booted = ap (λ (k : BootAndHistory). k.boot) c.in_ok-machine.ensures.kernel ∙ c.in_ok-machine.ensures.world in
    subst (λ (w : World). IsSwept c.args.plan.sweep w) (sym booted) c.requires.swept

pub print_positions-requires-clause-there : goal.print_positions-requires-clause-there
print_positions-requires-clause-there g c κs within = c.in_ok-first.ensures.next ∙ ap (λ n. n + 1) c.in_ok-ahead.ensures.first

pub print_positions-requires-clause-first : goal.print_positions-requires-clause-first
print_positions-requires-clause-first g c κs within =
    let sweep = c.args.plan.sweep in
    let t = c.in_ok-first.first in
    let from = sweep.range.from in
    let here = subst (λ k. IsTold sweep (boot_of c.in_ok-ahead.ahead) k t) c.in_ok-ahead.ensures.first c.in_ok-first.ensures.told in
    subst (λ (w : World). (let s = sweep_of sweep w in (t.text.items ≡ text_at s from) × (t.findings ≡ findings_at s from))) (sym c.in_ok-first.ensures.boot) (here.text, here.findings)

-- ---- failures

pub returns-in_err-machine-clause-front : goal.returns-in_err-machine-clause-front
returns-in_err-machine-clause-front g c = err_always c.from_residual.result _ (front_none (g.W.Write.contents c.args.out.now) _)

pub returns-in_err-ahead-clause-front : goal.returns-in_err-ahead-clause-front
returns-in_err-ahead-clause-front g c = err_always c.from_residual-in_err-ahead.result _ (front_none (g.W.Write.contents c.args.out.now) _)

pub returns-in_err-first-clause-front : goal.returns-in_err-first-clause-front
returns-in_err-first-clause-front g c = err_always c.from_residual-in_err-first.result _ (front_none (g.W.Write.contents c.args.out.now) _)

pub returns-in_err-first-clause-shown : goal.returns-in_err-first-clause-shown
returns-in_err-first-clause-shown g c =
    let all = c.args.plan.sweep.range.end - c.args.plan.sweep.range.from in
    let was = g.P.Progress.shown c.args.progress.now in
    shown_failed was was all 0 _ c.from_residual-in_err-first.result c.from_residual-in_err-first.ensures.1 (omega arith) (sym (append-nil _))

pub returns-in_err-total-clause-front : goal.returns-in_err-total-clause-front
returns-in_err-total-clause-front g c =
    let sweep = c.args.plan.sweep in
    let range = sweep.range in
    let booted = ap (λ (k : BootAndHistory). k.boot) c.in_ok-machine.ensures.kernel ∙ c.in_ok-machine.ensures.world in
    err_always c.from_residual-in_err-total.result _
    (subst (λ (w : World). PrintsFront (λ t. Appends (g.W.Write.contents c.args.out.now) (g.W.Write.contents c.print_positions.new.out) t) (positions_text (sweep_of sweep w) (range.end - range.from) range.from))
    (c.in_ok-first.ensures.boot ∙ c.in_ok-ahead.ensures.boot ∙ booted) c.in_err-total.ensures.front)

pub returns-in_err-total-clause-shown : goal.returns-in_err-total-clause-shown
returns-in_err-total-clause-shown g c =
    let all = c.args.plan.sweep.range.end - c.args.plan.sweep.range.from in
    let h = c.in_err-total.ensures.shown in
    shown_failed (g.P.Progress.shown c.args.progress.now) (g.P.Progress.shown c.print_positions.new.progress) all h.0 _ c.from_residual-in_err-total.result c.from_residual-in_err-total.ensures.1 h.1 h.2

-- ---- all positions

pub returns-clause-bytes : goal.returns-clause-bytes
returns-clause-bytes g c =
    let sweep = c.args.plan.sweep in
    let range = sweep.range in
    let booted = ap (λ (k : BootAndHistory). k.boot) c.in_ok-machine.ensures.kernel ∙ c.in_ok-machine.ensures.world in
    subst (λ (w : World). Appends (g.W.Write.contents c.args.out.now) (g.W.Write.contents c.print_positions.new.out) (positions_text (sweep_of sweep w) (range.end - range.from) range.from))
    (c.in_ok-first.ensures.boot ∙ c.in_ok-ahead.ensures.boot ∙ booted) c.in_ok-total.ensures.bytes

pub returns-clause-ended : goal.returns-clause-ended
returns-clause-ended g c =
    let sweep = c.args.plan.sweep in
    let wanted = c.args.plan.wanted in
    let range = sweep.range in
    let s = sweep_of sweep (world_at_boot sweep.config.now c.args.services.items) in
    let booted = ap (λ (k : BootAndHistory). k.boot) c.in_ok-machine.ensures.kernel ∙ c.in_ok-machine.ensures.world in
    let t = c.in_ok-first.first in
    let total = c.in_ok-total.total in
    let here = subst (λ k. IsTold sweep (boot_of c.in_ok-ahead.ahead) k t) c.in_ok-ahead.ensures.first c.in_ok-first.ensures.told in
    let found = subst (λ (w : World). t.findings ≡ findings_at (sweep_of sweep w) range.from) (c.in_ok-ahead.ensures.boot ∙ booted) here.findings in
    let counts = subst (λ (w : World). AreCounts (sweep_of sweep w) (range.end - range.from) range.from total) (c.in_ok-first.ensures.boot ∙ c.in_ok-ahead.ensures.boot ∙ booted) c.in_ok-total.ensures.counts in
    ending_is s wanted.from wanted.to range.from range.end c.requires.from c.requires.end total counts c.how_ended-2.result _ (λ some. ap (λ (f : Findings). f.refusal) found) c.how_ended-2.ensures
