use Rattle.std.proofs.Common.{◌≡◌, ◌∙◌, ℕ, List, None, Option, Some, ap, cond, false, subst, sym}
use Rattle.mx_machine.specs.declared.events.Event.{Event}
use Rattle.mx_machine.specs.declared.history.Record.{Record}
use Rattle.mx_walk.specs.declared.positions.Position.{Position}
use Rattle.mx_walk.specs.Positions.{IsBefore, IsPosition, IsUpTo, is_up_to, next_event, next_position}
use Rattle.mx_walk.proofs.Next.{is_position_too, next_up_to, not_itself, up_to_of}
use Rattle.mx_app_look.specs.Searches.{next_made}
use Rattle.mx_app_gdb.proofs.Onward.{match_weaker}
use Rattle.mx_app_gdb.proofs.moving.next_made.Goals as goal

pub returns : goal.returns
returns c =
    let k = c.args.walker.now in
    let rs = c.records.result.now in
    let p = c.here-here.result in
    let isnt : is_up_to k.last k.here ≡ false =
    ap (λ (q : Position). is_up_to q k.here) (sym c.last.ensures.last) ∙ ap (λ (q : Position). is_up_to c.last.result q) (sym c.here-here.ensures.here) ∙ sym c.is_up_to.ensures.value ∙ c.if-is_up_to.false in
    let lt : IsBefore p k.last = subst (λ (q : Position). IsBefore p q) c.last.ensures.last (c.is_up_to.ensures.no c.if-is_up_to.false) in
    let last : IsPosition k.records k.last = subst (λ (q : Position). IsPosition k.records q) c.last.ensures.last c.last.ensures.is.position in
    let made : next_made k ≡ next_event rs p =
    ap (λ b. let o : Option (ℕ × Event) = cond b None (next_event k.records k.here) in o) isnt
    ∙ ap (λ (xs : List Record). next_event xs k.here) (sym c.records.ensures) ∙ ap (λ (q : Position). next_event rs q) (sym c.here-here.ensures.here) in
    match_weaker c.next_event.result _ _ _ _ (λ none. made ∙ none) (λ n some.
    let x : ℕ × Event = (n.actor, n.event) in
    let later : next_event k.records p ≡ Some x = ap (λ (xs : List Record). next_event xs p) (sym c.records.ensures) ∙ some.0 in
    let there : n.position ≡ next_position k.records p = some.1 ∙ ap (λ (xs : List Record). next_position xs p) c.records.ensures in (
      made ∙ some.0,
      there ∙ ap (λ (q : Position). next_position k.records q) c.here-here.ensures.here,
      subst (λ (q : Position). IsPosition k.records q) (sym there) (is_position_too k.records p x c.here-here.ensures.position later),
      subst (λ (q : Position). IsUpTo q k.last) (sym there) (next_up_to k.records p k.last x c.here-here.ensures.position last later (up_to_of p k.last lt) (not_itself p k.last lt)),
    )) c.next_event.ensures
