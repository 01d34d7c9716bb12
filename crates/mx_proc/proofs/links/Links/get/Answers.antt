use Rattle.std.proofs.Common.{rules, slice_get, sym, ap, ◌∙◌, ◌+◌, arith, subst, drop}
use Rattle.mx_proc.specs.Queues.{list_at}
use Rattle.mx_proc.specs.Chains.{IsChain, chains}
use Rattle.mx_proc.proofs.ChainLemmas.{chain-short, one_on, placed, unplaced, within}
use Rattle.mx_proc.proofs.links.Links.get.Goals as goal

pub returns-then-at-clause-value : goal.returns-then-at-clause-value
returns-then-at-clause-value g c =
    sym (unplaced _ _ c.loop-step._step c.args.place _ c.loop-step.invariant c.if-at.true (omega (arith, c.loop-step-test.true)))
    ∙ ap (λ l. slice_get (list_at l c.args.list) c.args.place) c.self.view_is

pub next-at-requires : goal.next-at-requires
next-at-requires g c = (search rules, (one_on _ _ c.loop-step._step _ c.loop-step.invariant c.if-at.false).0)

pub loop-step-preserved : goal.loop-step-preserved
loop-step-preserved g c = subst (λ at. IsChain c.self.inside.forward.nexts at (drop (c.loop-step._step + 1) (list_at (chains c.self.inside.forward.nexts c.self.inside.forward.firsts) c.args.list))) (sym c.next-at.ensures) (one_on _ _ c.loop-step._step _ c.loop-step.invariant c.if-at.false).1

pub returns-then-at-2-clause-value : goal.returns-then-at-2-clause-value
returns-then-at-2-clause-value g c =
    sym (unplaced _ _ c.loop-step._step c.args.place _ c.loop-step.invariant c.if-at-2.true (omega (arith, c.loop-step.auto)))
    ∙ ap (λ l. slice_get (list_at l c.args.list) c.args.place) c.self.view_is

pub returns-else-at-2-clause-value : goal.returns-else-at-2-clause-value
returns-else-at-2-clause-value g c =
    sym (placed _ _ c.loop-step._step c.args.place _ c.loop-step.invariant c.if-at-2.false (omega (arith, c.loop-step.auto, c.loop-step-test.false)))
    ∙ ap (λ l. slice_get (list_at l c.args.list) c.args.place) c.self.view_is

pub returns-else-at-2-clause-few : goal.returns-else-at-2-clause-few
returns-else-at-2-clause-few g c =
    omega (
      arith,
      c.loop-step.auto,
      c.loop-step-test.false,
      within _ _ c.loop-step._step _ c.loop-step.invariant c.if-at-2.false,
      chain-short _ _ _ (c.self.invariant.forward c.args.list) (λ t. c.self.invariant.once t c.args.list),
    )
