use Rattle.std.proofs.Common.{◌≡◌, ◌∙◌, arith, refl, sym, ap, subst, ℕ}
use Rattle.mx_exec.specs.declared.image.Image.{Image}
use Rattle.mx_debug.specs.Halts.{is_breakpoint}
use Rattle.mx_debug.specs.Points.{has_breakpoint}
use Rattle.mx_debug.proofs.Halting.{Stepped, stepped_start, stuck_halts, one_more, step_halts, step_goes, all_halts}
use Rattle.mx_debug.proofs.points.Debugger.step_on.Goals as goal

pub loop-count-init : goal.loop-count-init
loop-count-init g c = record { stepped = stepped_start c.args.self.now c.args.slot (g.H.Held.out c.args.held.now); loan = refl }

pub returns-then-made-eq0-clause-halts : goal.returns-then-made-eq0-clause-halts
returns-then-made-eq0-clause-halts g c =
    stuck_halts c.args.self.now c.args.slot c.args.k c.loop-count.count (g.H.Held.out c.args.held.now) (g.H.Held.out c.loop-count.held) (g.H.Held.out c.run-made.new.self) c.run-made.result.1 c.run-made.result.0 c.cause_of.result
    c.loop-count.invariant.stepped (omega arith) c.run-made.ensures.ran c.if-made-eq0.true c.cause_of.ensures

pub returns-then-not-is_spent-clause-halts : goal.returns-then-not-is_spent-clause-halts
returns-then-not-is_spent-clause-halts g c =
    let more = one_more c.args.self.now c.args.slot c.loop-count.count (g.H.Held.out c.args.held.now) (g.H.Held.out c.loop-count.held) (g.H.Held.out c.run-made.new.self) c.run-made.result.1 c.run-made.result.0 c.loop-count.invariant.stepped c.run-made.ensures.ran c.if-made-eq0.false in
    step_halts c.args.self.now c.args.slot c.args.k c.loop-count.count (g.H.Held.out c.args.held.now) (g.H.Held.out c.loop-count.held) (g.H.Held.out c.run-made.new.self) c.run-made.result.1 c.run-made.result.0 (is_breakpoint c.next_place-place.result) c.cause_of-cause.result
    more (omega arith) c.run-made.ensures.ran (c.next_place-place.ensures ∙ ap (λ (m : Image). has_breakpoint c.args.self.now c.args.slot m.eip) c.image.ensures) c.cause_of-cause.ensures (sym c.is_spent.ensures ∙ c.if-not-is_spent.true)

pub loop-count-preserved : goal.loop-count-preserved
loop-count-preserved g c =
    let more = one_more c.args.self.now c.args.slot c.loop-count.count (g.H.Held.out c.args.held.now) (g.H.Held.out c.loop-count.held) (g.H.Held.out c.run-made.new.self) c.run-made.result.1 c.run-made.result.0 c.loop-count.invariant.stepped c.run-made.ensures.ran c.if-made-eq0.false in
    record {
      stepped = step_goes c.args.self.now c.args.slot c.loop-count.count (g.H.Held.out c.args.held.now) (g.H.Held.out c.loop-count.held) (g.H.Held.out c.run-made.new.self) c.run-made.result.1 c.run-made.result.0 (is_breakpoint c.next_place-place.result) c.cause_of-cause.result
          more c.run-made.ensures.ran (c.next_place-place.ensures ∙ ap (λ (m : Image). has_breakpoint c.args.self.now c.args.slot m.eip) c.image.ensures) c.cause_of-cause.ensures (sym c.is_spent.ensures ∙ c.if-not-is_spent.false);
      loan = c.run-made.ensures.loan ∙ c.loop-count.invariant.loan;
    }

pub returns-clause-halts : goal.returns-clause-halts
returns-clause-halts g c =
    let e : c.loop-count.count ≡ c.args.k = omega arith in
    let whole : Stepped c.args.self.now c.args.slot c.args.k (g.H.Held.out c.args.held.now) (g.H.Held.out c.loop-count.held) =
    subst (λ (n : ℕ). Stepped c.args.self.now c.args.slot n (g.H.Held.out c.args.held.now) (g.H.Held.out c.loop-count.held)) e c.loop-count.invariant.stepped in
    all_halts c.args.self.now c.args.slot c.args.k (g.H.Held.out c.args.held.now) (g.H.Held.out c.loop-count.held) c.requires whole
