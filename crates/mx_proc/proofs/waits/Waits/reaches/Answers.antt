use Rattle.std.proofs.Common.{◌≡◌, ◌∙◌, sym, arith, length, ◌-◌, ap}
use Rattle.mx_proc.specs.Waits.{walk}
use Rattle.mx_proc.proofs.CallerLemmas.{counted_pairs}
use Rattle.mx_proc.proofs.WaitLemmas.{walk-step}
use Rattle.mx_proc.proofs.waits.Waits.reaches.Goals as goal

pub loop-step-init : goal.loop-step-init
loop-step-init c =
    let whole : c.self.inside.count - 0 ≡ length c.args.self.now = omega (arith, counted_pairs _ c.self.invariant c.self.view_is) in
    ap (λ n. walk n c.args.self.now c.args.from c.args.to) whole

pub loop-step-preserved : goal.loop-step-preserved
loop-step-preserved c = walk-step (c.self.inside.count - c.loop-step._step) _ _ c.loop-step.at _ _ (omega (arith, c.loop-step-test.true)) (sym c.next.ensures ∙ c.in-Some.is) c.if-next-to.false ∙ c.loop-step.invariant
