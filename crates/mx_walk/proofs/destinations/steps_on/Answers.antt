use Rattle.std.proofs.Common.{◌≡◌, ◌∙◌, ◌-◌, ◌+◌, true, false, List, Some, ap, subst, sym}
use Rattle.mx_machine.specs.declared.history.Record.{Record}
use Rattle.mx_walk.specs.declared.positions.Position.{Position}
use Rattle.mx_walk.specs.Positions.{IsBefore, IsPosition, IsUpTo, next_event, is_up_to, next_position}
use Rattle.mx_walk.specs.Moves.{steps_on}
use Rattle.mx_walk.proofs.Moving.{next_is_early, no_end, none_left, on_by_one, on_stays, one_less}
use Rattle.mx_walk.proofs.Next.{is_position_too}
use Rattle.mx_walk.proofs.destinations.steps_on.Goals as goal

pub returns-then-is_up_to : goal.returns-then-is_up_to
returns-then-is_up_to c =
    let k = c.args.walker.now in
    let inv = c.loop.invariant in
    let p = c.loop.at in
    let over : is_up_to k.last p ≡ true = ap (λ (q : Position). is_up_to q p) (sym c.last.ensures.last) ∙ sym c.is_up_to.ensures.value ∙ c.if-is_up_to.true in
    record {
      value = sym (on_stays k (c.args.count - c.loop.counter) p over) ∙ inv.left;
      position = inv.position;
      early = inv.early;
    }

pub loop-preserved : goal.loop-preserved
loop-preserved c =
    let k = c.args.walker.now in
    let inv = c.loop.invariant in
    let p = c.loop.at in
    let n = c.args.count - (c.loop.counter + 1) in
    let e = c.in-Some.ensures in
    let l : IsPosition k.records k.last = subst (λ (q : Position). IsPosition k.records q) c.last.ensures.last c.last.ensures.is.position in
    let lt : IsBefore p k.last = subst (λ (q : Position). IsBefore p q) c.last.ensures.last (c.is_up_to.ensures.no c.if-is_up_to.false) in
    let isnt : is_up_to k.last p ≡ false = ap (λ (q : Position). is_up_to q p) (sym c.last.ensures.last) ∙ sym c.is_up_to.ensures.value ∙ c.if-is_up_to.false in
    let there : next_event k.records p ≡ Some (c.in-Some.next.actor, c.in-Some.next.event) = ap (λ (rs : List Record). next_event rs p) (sym c.records.ensures) ∙ e.0 in
    let next : c.in-Some.next.position ≡ next_position k.records p = e.1 ∙ ap (λ (rs : List Record). next_position rs p) c.records.ensures in
    record {
      left = ap (λ (q : Position). steps_on n k q) next ∙ sym (on_by_one k n p isnt) ∙ ap (λ i. steps_on i k p) (sym (one_less c.args.count c.loop.counter c.loop-test.true)) ∙ inv.left;
      position = subst (λ (q : Position). IsPosition k.records q) (sym next) (is_position_too k.records p (c.in-Some.next.actor, c.in-Some.next.event) inv.position there);
      early = subst (λ (q : Position). IsUpTo q k.last) (sym next) (next_is_early k.records p k.last (c.in-Some.next.actor, c.in-Some.next.event) inv.position l lt there);
    }

pub unreachable-requires : goal.unreachable-requires
unreachable-requires c =
    let k = c.args.walker.now in
    let p = c.loop.at in
    let l : IsPosition k.records k.last = subst (λ (q : Position). IsPosition k.records q) c.last.ensures.last c.last.ensures.is.position in
    let lt : IsBefore p k.last = subst (λ (q : Position). IsBefore p q) c.last.ensures.last (c.is_up_to.ensures.no c.if-is_up_to.false) in
    no_end k.records p k.last l lt (ap (λ (rs : List Record). next_event rs p) (sym c.records.ensures) ∙ c.in-None.ensures)

pub next_event-requires : goal.next_event-requires
next_event-requires c =
    let p = c.loop.at in
    subst (λ (rs : List Record). IsPosition rs p) (sym c.records.ensures) c.loop.invariant.position

pub returns : goal.returns
returns c =
    let k = c.args.walker.now in
    let inv = c.loop.invariant in
    record {
      value = ap (λ i. steps_on i k c.loop.at) (sym (none_left c.args.count c.loop.counter c.loop-test.false)) ∙ inv.left;
      position = inv.position;
      early = inv.early;
    }
