use Rattle.std.proofs.Common.{◌∙◌, ℕ, Some, ap, subst, sym}
use Rattle.std.specs.Prelude.{unwrap_or}
use Rattle.mx_machine.specs.declared.events.Event.{Event}
use Rattle.mx_machine.specs.Machine.{world_of}
use Rattle.mx_walk.specs.declared.positions.Position.{Position}
use Rattle.mx_walk.specs.Positions.{IsPosition, IsUpTo}
use Rattle.mx_walk.specs.Walks.{Walk}
use Rattle.mx_app_gdb.specs.Moves.{IsGoneBack}
use Rattle.mx_app_gdb.proofs.Behind.{back_break, back_change, back_nowhere, some_next, sought, sought_is}
use Rattle.mx_app_gdb.proofs.Grown.{both_hold, grown_either}
use Rattle.mx_app_gdb.proofs.going_back.go_back.Goals as goal

pub returns-in_err-walker-clause-grown : goal.returns-in_err-walker-clause-grown
returns-in_err-walker-clause-grown g c = grown_either _ _ _ c.in_err-walker.ensures.unshown

pub returns-then-not-is_there-clause-halted : goal.returns-then-not-is_there-clause-halted
returns-then-not-is_there-clause-halted g c =
    let k = c.args.walker in
    let h = c.args.halts.now in
    let j = c.in_ok-walker.walker in
    let f = sought c.in_ok-mark.mark in
    let same = sought_is h.points c.in_ok-mark.mark c.in_ok-mark.ensures.bytes c.in_ok-mark.ensures.breaks in
    let n = c.in_ok-walker.ensures.nowhere c.if-not-is_there.true in
    back_nowhere k h j c.in_ok-walker.ensures.same f same n.1 n.0

pub returns-then-is_break-clause-halted : goal.returns-then-is_break-clause-halted
returns-then-is_break-clause-halted g c =
    let k = c.args.walker in
    let h = c.args.halts.now in
    let j = c.in_ok-walker.walker in
    let f = sought c.in_ok-mark.mark in
    let same = sought_is h.points c.in_ok-mark.mark c.in_ok-mark.ensures.bytes c.in_ok-mark.ensures.breaks in
    let i = subst (λ (p : Position). IsPosition j.records p) c.here-2.ensures.here c.here-2.ensures.position in
    let found = c.in_ok-walker.ensures.found c.if-not-is_there.false in
    let x : ℕ × Event = (c.in-Some.next.actor, c.in-Some.next.event) in
    back_break k h j c.in_ok-walker.ensures.same f same i found x c.in-Some.ensures.0 (world_of c.machine.result.now) c.machine.ensures.world c.is_break.result c.unwrap_or-slot.result c.is_break.ensures c.if-is_break.true
    (c.unwrap_or-slot.ensures ∙ ap (λ o. unwrap_or o h.mover) c.slot_next.ensures)

pub returns-clause-halted : goal.returns-clause-halted
returns-clause-halted g c =
    let k = c.args.walker in
    let h = c.args.halts.now in
    let j = c.in_ok-walker.walker in
    let f = sought c.in_ok-mark.mark in
    let same = sought_is h.points c.in_ok-mark.mark c.in_ok-mark.ensures.bytes c.in_ok-mark.ensures.breaks in
    let i = subst (λ (p : Position). IsPosition j.records p) c.here-2.ensures.here c.here-2.ensures.position in
    let found = c.in_ok-walker.ensures.found c.if-not-is_there.false in
    let x : ℕ × Event = (c.in-Some.next.actor, c.in-Some.next.event) in
    both_hold c.change_by.result _ _ _ (λ r stays halted. subst (λ (w : Walk). IsGoneBack k h (w.here, Some r.1)) (sym stays)
    (back_change k h j c.in_ok-walker.ensures.same f same i found x c.in-Some.ensures.0 (world_of c.machine.result.now) c.machine.ensures.world c.is_break.result c.in-Some.next.position r.1 c.is_break.ensures c.if-is_break.false
    c.in-Some.ensures.1 halted)) c.change_by.ensures.same c.change_by.ensures.halted

pub unreachable-requires : goal.unreachable-requires
unreachable-requires g c =
    let k = c.args.walker in
    let h = c.args.halts.now in
    let j = c.in_ok-walker.walker in
    let f = sought c.in_ok-mark.mark in
    let same = sought_is h.points c.in_ok-mark.mark c.in_ok-mark.ensures.bytes c.in_ok-mark.ensures.breaks in
    let i = subst (λ (p : Position). IsPosition j.records p) c.here-2.ensures.here c.here-2.ensures.position in
    let found = c.in_ok-walker.ensures.found c.if-not-is_there.false in
    let start = subst (λ (p : Position). IsPosition k.records p) c.here.ensures.here c.here.ensures.position in
    let early = subst (λ (p : Position). IsUpTo p k.last) c.here.ensures.here c.here.ensures.early in
    some_next k h j c.in_ok-walker.ensures.same f same i found start early c.in-None.ensures
