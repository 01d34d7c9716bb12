use Rattle.std.proofs.Common.{◌∙◌, ℕ, [], append-nil, ap, subst, sym}
use Rattle.mx_machine.specs.declared.events.Event.{Event}
use Rattle.mx_walk.specs.declared.positions.Position.{Position}
use Rattle.mx_walk.specs.Positions.{IsBefore, IsPosition}
use Rattle.mx_walk.specs.Walks.{Walk}
use Rattle.mx_walk.proofs.Next.{above_its_next}
use Rattle.mx_app_gdb.proofs.HaltedOn.{made_is, made_next}
use Rattle.mx_app_gdb.proofs.RightAfter.{none_halts}
use Rattle.mx_app_gdb.proofs.moving.make_next.Goals as goal

pub returns-in_err-walker-in-Some-clause-grown : goal.returns-in_err-walker-in-Some-clause-grown
returns-in_err-walker-in-Some-clause-grown g c = ([], c.in_err-walker-in-Some.ensures.unshown ∙ sym (append-nil _))

pub returns-in_ok-halted-in-Some-clause-made : goal.returns-in_ok-halted-in-Some-clause-made
returns-in_ok-halted-in-Some-clause-made g c =
    let k = c.args.walker in
    let start = subst (λ (p : Position). IsPosition k.records p) c.here.ensures.here c.here.ensures.position in
    made_next k c.args.halts.now (c.in-Some.next.actor, c.in-Some.next.event) c.requires.unchanged start c.in-Some.ensures.0 c.in_ok-walker-in-Some.walker c.in-Some.next.position _
    c.in_ok-walker-in-Some.ensures.gone c.in-Some.ensures.1 c.in_ok-halted-in-Some.ensures

pub returns-in_ok-halted-in-Some-clause-on : goal.returns-in_ok-halted-in-Some-clause-on
returns-in_ok-halted-in-Some-clause-on g c =
    let k = c.args.walker in
    let start = subst (λ (p : Position). IsPosition k.records p) c.here.ensures.here c.here.ensures.position in
    let x : ℕ × Event = (c.in-Some.next.actor, c.in-Some.next.event) in
    let there = ap (λ (w : Walk). w.here) c.in_ok-walker-in-Some.ensures.gone ∙ c.in-Some.ensures.1 in
    λ none. subst (λ (p : Position). IsBefore k.here p) (sym there) (above_its_next k.records k.here x start (made_is k x c.in-Some.ensures.0))

pub returns-in_ok-halted-in-Some-clause-unchanged : goal.returns-in_ok-halted-in-Some-clause-unchanged
returns-in_ok-halted-in-Some-clause-unchanged g c = λ none. none_halts c.in_ok-walker-in-Some.walker c.args.halts.now c.requires.unchanged.watched (sym c.in_ok-halted-in-Some.ensures ∙ none)
