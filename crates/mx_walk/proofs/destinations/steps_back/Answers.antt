use Rattle.std.proofs.Common.{◌≡◌, ◌∙◌, ◌-◌, ◌+◌, List, ap, subst, sym}
use Rattle.mx_machine.specs.declared.history.Record.{Record}
use Rattle.mx_walk.specs.declared.positions.Position.{Position}
use Rattle.mx_walk.specs.Positions.{IsPosition, position_before}
use Rattle.mx_walk.specs.Moves.{steps_back}
use Rattle.mx_walk.proofs.Moving.{back_by_one, back_stays, before_is_early, before_is_position, none_left, one_less}
use Rattle.mx_walk.proofs.destinations.steps_back.Goals as goal

pub returns-in-None : goal.returns-in-None
returns-in-None c =
    let k = c.args.walker.now in
    let inv = c.loop.invariant in
    record {
      value = sym (back_stays k (c.args.count - c.loop.counter) c.loop.at c.in-None.ensures) ∙ inv.left;
      position = inv.position;
      early = inv.early;
    }

pub loop-preserved : goal.loop-preserved
loop-preserved c =
    let k = c.args.walker.now in
    let inv = c.loop.invariant in
    let p = c.loop.at in
    let q = c.in-Some.before in
    let n = c.args.count - (c.loop.counter + 1) in
    let e = c.in-Some.ensures in
    let before : q ≡ position_before k.records p = e.0 ∙ ap (λ (rs : List Record). position_before rs p) c.records.ensures in
    record {
      left = ap (λ (r : Position). steps_back n k r) before ∙ sym (back_by_one k n q p e.1) ∙ ap (λ i. steps_back i k p) (sym (one_less c.args.count c.loop.counter c.loop-test.true)) ∙ inv.left;
      position = subst (λ (r : Position). IsPosition k.records r) (sym before) (before_is_position k.records q p inv.position e.1);
      early = before_is_early q p k.last e.1 inv.early;
    }

pub position_before-requires : goal.position_before-requires
position_before-requires c =
    let p = c.loop.at in
    subst (λ (rs : List Record). IsPosition rs p) (sym c.records.ensures) c.loop.invariant.position

pub returns : goal.returns
returns c =
    let k = c.args.walker.now in
    let inv = c.loop.invariant in
    record {
      value = ap (λ i. steps_back i k c.loop.at) (sym (none_left c.args.count c.loop.counter c.loop-test.false)) ∙ inv.left;
      position = inv.position;
      early = inv.early;
    }
