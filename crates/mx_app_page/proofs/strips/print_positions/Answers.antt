use Rattle.std.proofs.Common.{◌≡◌, ◌∙◌, ◌+◌, ◌-◌, ◌++◌, [], ℕ, List, ap, arith, is_some, refl, subst, sym}
use Rattle.std.proofs.lemmas.List.{append-nil}
use Rattle.std.specs.Io.KnownBytes.{Appends}
use Rattle.mx_machine.specs.World.{World}
use Rattle.mx_app_failure.specs.Failure.{PrintsFront}
use Rattle.mx_app_step.proofs.FrontLemmas.{err_always}
use Rattle.mx_turns.specs.Ahead.{boot_of}
use Rattle.mx_turns.specs.declared.trials.Findings.{Findings}
use Rattle.mx_walk.specs.Parts.{parts_shown}
use Rattle.mx_walk.proofs.PartsShown.{next_shown}
use Rattle.mx_app_turns.specs.Begun.{sweep_of}
use Rattle.mx_app_turns.specs.Sweeping.{findings_at, text_at}
use Rattle.mx_app_turns.specs.Tallied.{both}
use Rattle.mx_app_turns.specs.declared.blocks.Total.{Total}
use Rattle.mx_app_turns.proofs.BlockLemmas.{small}
use Rattle.mx_app_turns.proofs.SweptLemmas.{shown_failed}
use Rattle.mx_app_page.specs.Strips.{positions_text}
use Rattle.mx_app_page.proofs.StripLemmas.{all_counts, first_is, first_printed, front_of_all, next_begun, next_printed, some_begun}
use Rattle.mx_app_page.proofs.strips.print_positions.Goals as goal

-- ---- the first position

pub returns-in_err-print_range-clause-front : goal.returns-in_err-print_range-clause-front
returns-in_err-print_range-clause-front g c =
    let s = sweep_of c.args.sweep (boot_of c.args.ahead) in
    let from = c.args.sweep.range.from in
    let end = c.args.sweep.range.end in
    let x = g.W.Write.contents c.args.out.now in
    let y = g.W.Write.contents c.print_range.new.out in
    let first = c.requires.first in
    err_always c.from_residual.result _
    (front_of_all s from end (from + 1) x y (omega (arith, c.requires.some))
    (subst (λ (t : List ℕ). PrintsFront (λ u. Appends x y u) t) (first_is s from end c.args.first.text.items c.args.first.findings first.0 first.1) c.in_err-print_range.ensures.front))

pub returns-in_err-print_range-clause-shown : goal.returns-in_err-print_range-clause-shown
returns-in_err-print_range-clause-shown g c =
    let from = c.args.sweep.range.from in
    let end = c.args.sweep.range.end in
    let before = g.P.Progress.shown c.args.progress.now in
    let shown = next_shown (end - from) 0 1 1 before before (g.P.Progress.shown c.show.new.self) _ (omega arith) (omega arith) refl (sym (append-nil before)) c.show.ensures in
    shown_failed before (g.P.Progress.shown c.print_range.new.progress) (end - from) 1 _ c.from_residual.result c.from_residual.ensures.1
    (omega (arith, c.requires.some)) (c.in_err-print_range.ensures.shown ∙ shown)

pub loop-position-init : goal.loop-position-init
loop-position-init g c =
    let s = sweep_of c.args.sweep (boot_of c.args.ahead) in
    let from = c.args.sweep.range.from in
    let end = c.args.sweep.range.end in
    let first = c.requires.first in
    let before = g.P.Progress.shown c.args.progress.now in
    let one : from + 1 - from ≡ 1 = omega arith in
    record {
      so_far = first_printed s from end c.args.first.text.items c.args.first.findings first.0 first.1 (g.W.Write.contents c.args.out.now) (g.W.Write.contents c.print_range.new.out) c.one-total.result
          c.requires.some c.one-total.ensures c.in_ok-print_range.ensures.bytes;
      ahead = c.requires.ahead;
      there = c.requires.there;
      boot = refl;
      shown = c.in_ok-print_range.ensures.shown
          ∙ next_shown (end - from) 0 (from + 1 - from) 1 before before (g.P.Progress.shown c.show.new.self) _ one (sym one) refl (sym (append-nil before)) c.show.ensures;
    }

-- ---- one position more

pub told_shown-requires-clause-from : goal.told_shown-requires-clause-from
told_shown-requires-clause-from g c = let h = c.loop-position.invariant.so_far.above in omega (arith, h)

pub returns-in_err-told-clause-front : goal.returns-in_err-told-clause-front
returns-in_err-told-clause-front g c =
    let s = sweep_of c.args.sweep (boot_of c.args.ahead) in
    let before = c.loop-position.before in
    err_always c.from_residual-in_err-told.result _
    (some_begun s c.args.sweep.range.from c.args.sweep.range.end c.loop-position.position (g.W.Write.contents c.args.out.now) (g.W.Write.contents c.loop-position.out) before.text.items before.findings.is_alike
    c.loop-position.total c.loop-position.invariant.so_far)

pub returns-in_err-told-clause-shown : goal.returns-in_err-told-clause-shown
returns-in_err-told-clause-shown g c =
    let all = c.args.sweep.range.end - c.args.sweep.range.from in
    shown_failed (g.P.Progress.shown c.args.progress.now) (g.P.Progress.shown c.told_shown.new.progress) all (c.loop-position.position - c.args.sweep.range.from) _ c.from_residual-in_err-told.result c.from_residual-in_err-told.ensures.1
    (omega (arith, c.loop-position-test.true)) (c.in_err-told.ensures.same ∙ c.loop-position.invariant.shown)

pub returns-in_err-print_beginning-clause-front : goal.returns-in_err-print_beginning-clause-front
returns-in_err-print_beginning-clause-front g c =
    let s = sweep_of c.args.sweep (boot_of c.args.ahead) in
    let p = c.loop-position.position in
    let inv = c.loop-position.invariant in
    let before = c.loop-position.before in
    let told = c.in_ok-told.told in
    let is = subst (λ (w : World). (let s = sweep_of c.args.sweep w in (told.text.items ≡ text_at s p) × (told.findings ≡ findings_at s p))) inv.boot c.in_ok-told.ensures.told in
    err_always c.from_residual-in_err-print_beginning.result _
    (next_begun s c.args.sweep.range.from c.args.sweep.range.end p (g.W.Write.contents c.args.out.now) (g.W.Write.contents c.loop-position.out) before.text.items before.findings.is_alike c.loop-position.total inv.so_far
    told.text.items told.findings c.loop-position-test.true is.0 is.1 (g.W.Write.contents c.print_beginning.new.out) c.in_err-print_beginning.ensures.front)

pub returns-in_err-print_beginning-clause-shown : goal.returns-in_err-print_beginning-clause-shown
returns-in_err-print_beginning-clause-shown g c =
    let p = c.loop-position.position in
    let from = c.args.sweep.range.from in
    let all = c.args.sweep.range.end - from in
    let before = g.P.Progress.shown c.args.progress.now in
    let inv = c.loop-position.invariant in
    let shown = next_shown all (p - from) (p - from + 1) (p - from + 1) before (g.P.Progress.shown c.loop-position.progress) (g.P.Progress.shown c.told_shown.new.progress) _ refl refl refl inv.shown c.in_ok-told.ensures.shown in
    shown_failed before (g.P.Progress.shown c.print_beginning.new.progress) all (p - from + 1) _ c.from_residual-in_err-print_beginning.result c.from_residual-in_err-print_beginning.ensures.1
    (let above = inv.so_far.above in omega (arith, c.loop-position-test.true, above)) (c.in_err-print_beginning.ensures.shown ∙ shown)

-- as many as there are positions so far, and one more
pub and-total-requires : goal.and-total-requires
and-total-requires g c =
    let so_far = c.loop-position.invariant.so_far in
    let found = c.in_ok-told.told.findings in
    let above = so_far.above in
    let within = so_far.within in
    let one = c.one.ensures in
    let n = ap (λ (t : Total). t.positions) one in
    let b = ap (λ (t : Total). t.blocks) one in
    let a = ap (λ (t : Total). t.alike) one in
    let r = ap (λ (t : Total). t.refused) one in
    let f = ap (λ (t : Total). t.full) one in
    let n0 = so_far.positions in
    let b0 = so_far.few in
    let a0 = so_far.counted_alike.few in
    let r0 = so_far.counted_refused.few in
    let f0 = so_far.counted_full.few in
    let a1 = small found.is_alike in
    let r1 = small (is_some found.refusal) in
    let f1 = small found.is_full in record {
      few = (
        omega (arith, n, n0, above, c.loop-position-test.true),
        omega (arith, b, b0, above, c.loop-position-test.true),
        omega (arith, a, a1, a0, above, c.loop-position-test.true),
        omega (arith, r, r1, r0, above, c.loop-position-test.true),
        omega (arith, f, f1, f0, above, c.loop-position-test.true),
      );
    }

pub loop-position-preserved : goal.loop-position-preserved
loop-position-preserved g c =
    let s = sweep_of c.args.sweep (boot_of c.args.ahead) in
    let inv = c.loop-position.invariant in
    let p = c.loop-position.position in
    let from = c.args.sweep.range.from in
    let end = c.args.sweep.range.end in
    let before = c.loop-position.before in
    let told = c.in_ok-told.told in
    let made = c.in_ok-told.ensures in
    let is = subst (λ (w : World). (let s = sweep_of c.args.sweep w in (told.text.items ≡ text_at s p) × (told.findings ≡ findings_at s p))) inv.boot made.told in
    let above = inv.so_far.above in
    let next_part : p + 1 - from ≡ p - from + 1 = omega (arith, above, c.loop-position-test.true) in
    record {
      so_far = next_printed s from end p (g.W.Write.contents c.args.out.now) (g.W.Write.contents c.loop-position.out) before.text.items before.findings.is_alike c.loop-position.total inv.so_far
          told.text.items told.findings c.loop-position-test.true is.0 is.1 (g.W.Write.contents c.print_beginning.new.out) c.and-total.result (c.and-total.ensures ∙ ap (λ (t : Total). both c.loop-position.total t) c.one.ensures) c.in_ok-print_beginning.ensures.bytes;
      ahead = made.ahead;
      there = made.there;
      boot = made.boot ∙ inv.boot;
      shown = c.in_ok-print_beginning.ensures.shown
          ∙ next_shown (end - from) (p - from) (p + 1 - from) (p - from + 1) (g.P.Progress.shown c.args.progress.now) (g.P.Progress.shown c.loop-position.progress) (g.P.Progress.shown c.told_shown.new.progress) _ next_part (sym next_part) refl inv.shown made.shown;
    }

-- ---- all of them

pub returns-clause-bytes : goal.returns-clause-bytes
returns-clause-bytes g c =
    let so_far = c.loop-position.invariant.so_far in
    let from = c.args.sweep.range.from in
    let within = so_far.within in
    let last : c.loop-position.position ≡ c.args.sweep.range.end = omega (arith, within, c.loop-position-test.false) in
    subst (λ k. Appends (g.W.Write.contents c.args.out.now) (g.W.Write.contents c.loop-position.out) (positions_text (sweep_of c.args.sweep (boot_of c.args.ahead)) (k - from) from)) last so_far.printed

pub returns-clause-counts : goal.returns-clause-counts
returns-clause-counts g c =
    let so_far = c.loop-position.invariant.so_far in
    let before = c.loop-position.before in
    let within = so_far.within in
    let last : c.loop-position.position ≡ c.args.sweep.range.end = omega (arith, within, c.loop-position-test.false) in
    all_counts (sweep_of c.args.sweep (boot_of c.args.ahead)) c.args.sweep.range.from c.args.sweep.range.end c.loop-position.position (g.W.Write.contents c.args.out.now) (g.W.Write.contents c.loop-position.out) before.text.items before.findings.is_alike
    c.loop-position.total so_far last

pub returns-clause-shown : goal.returns-clause-shown
returns-clause-shown g c =
    let from = c.args.sweep.range.from in
    let end = c.args.sweep.range.end in
    let inv = c.loop-position.invariant in
    let within = inv.so_far.within in
    let last : c.loop-position.position ≡ end = omega (arith, within, c.loop-position-test.false) in
    inv.shown ∙ ap (λ i. g.P.Progress.shown c.args.progress.now ++ parts_shown (end - from) (i - from)) last
