use Rattle.std.proofs.Common.{◌≡◌, ◌∷◌, [], ap, arith, length, length-append, subst, sym}
use Rattle.mx_machine.specs.World.{World}
use Rattle.mx_turns.specs.Ahead.{AreTold, IsAfter}
use Rattle.mx_turns.specs.declared.ahead.Told.{Told}
use Rattle.mx_turns.specs.Swept.{IsSwept}
use Rattle.mx_turns.proofs.AheadLemmas.{goes_on, made, tells, told_push}
use Rattle.mx_turns.proofs.ahead.try_in_turn.Goals as goal

pub loop-position-init : goal.loop-position-init
loop-position-init c =
    let none = c.new-told.ensures.items in
    let len = ap length none in
    record {
      pair = c.requires.pair;
      told = subst (AreTold c.args.sweep c.args.boot.now.value.kernel.boot c.args.range.from) (sym none) tt;
      all = omega (arith, len);
      within = c.requires.order;
      last = λ h. absurd (omega (arith, h));
    }

pub trial_at-requires-clause-swept : goal.trial_at-requires-clause-swept
trial_at-requires-clause-swept c = subst (λ (w : World). IsSwept c.args.sweep w) (sym c.loop-position.invariant.pair.boot) c.requires.swept

pub loop-position-preserved : goal.loop-position-preserved
loop-position-preserved c =
    let s = c.args.sweep in
    let w = c.args.boot.now.value.kernel.boot in
    let from = c.args.range.from in
    let p = c.loop-position.position in
    let inv = c.loop-position.invariant in
    let t = c.in_ok-trial.trial in
    let boot = c.loop-position.pair.along.kernel.boot in
    let is = c.in_ok-trial.ensures in
    let old = c.loop-position.told.items in
    let pushed = c.in-Ok.ensures.items in
    let next : Told = record { text = t.text; findings = t.findings } in
    let more = length-append old (next ∷ []) in
    let len = ap length pushed in
    record {
      pair = goes_on s w p t boot inv.pair.boot is;
      told = subst (AreTold s w from) (sym pushed) (told_push s w old next from p inv.told inv.all (tells s w p t boot inv.pair.boot is));
      all = omega (arith, len, more, inv.all);
      within = omega (arith, c.loop-position-test.true);
      last = λ h. made s w p t boot inv.pair.boot is;
    }

pub returns-clause-last : goal.returns-clause-last
returns-clause-last c some =
    let inv = c.loop-position.invariant in
    let last : c.loop-position.position ≡ c.args.range.end = omega (arith, inv.within, c.loop-position-test.false) in
    subst (λ k. IsAfter c.args.sweep c.args.boot.now.value.kernel.boot k c.loop-position.pair) last (inv.last (omega (arith, last, some)))
