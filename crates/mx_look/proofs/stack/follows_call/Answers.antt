use Rattle.std.proofs.Common.{◌≡◌, ◌∙◌, false, subst, sym, arith}
use Rattle.mx_look.specs.Stack.{shorter_call_ends}
use Rattle.mx_look.proofs.Rows.{none_ends, one_ends}
use Rattle.mx_look.proofs.stack.follows_call.Goals as goal

pub returns-then-call_ends : goal.returns-then-call_ends
returns-then-call_ends c = sym (one_ends c.args.image.now c.args.at 16 c.loop-size.size c.loop-size-test.true (sym c.call_ends.ensures ∙ c.if-call_ends.true))

pub loop-size-preserved : goal.loop-size-preserved
loop-size-preserved c = none_ends c.args.image.now c.args.at c.loop-size.size c.loop-size.invariant (sym c.call_ends.ensures ∙ c.if-call_ends.false)

pub returns : goal.returns
returns c =
    let all : c.loop-size.size ≡ 16 = omega (arith, c.loop-size-test.false, c.loop-size.auto.size-end) in
    subst (λ k. false ≡ shorter_call_ends c.args.image.now c.args.at k) all (sym c.loop-size.invariant)
