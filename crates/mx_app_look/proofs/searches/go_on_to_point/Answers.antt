use Rattle.std.proofs.Common.{◌≡◌, ◌∙◌, ℕ, List, None, Some, ap, false, refl, string_bytes, sym, true}
use Rattle.std.proofs.lemmas.Result.{IfOk-weaker}
use Rattle.mx_machine.specs.declared.events.Event.{Event}
use Rattle.mx_machine.specs.declared.history.Record.{Record}
use Rattle.mx_walk.specs.declared.positions.Position.{Position}
use Rattle.mx_walk.specs.Positions.{is_up_to, next_event, next_position}
use Rattle.mx_app_look.specs.Searches.{not_met}
use Rattle.mx_app_look.proofs.Coming.{next_halt, none_is_below, none_is_next}
use Rattle.mx_app_look.proofs.ShownMore.{here_shown, next_shown, ok_always}
use Rattle.mx_app_look.proofs.searches.go_on_to_point.Goals as goal

pub returns-then-is_up_to-clause-shown : goal.returns-then-is_up_to-clause-shown
returns-then-is_up_to-clause-shown g c =
    let k = c.args.walker in
    let s = c.args.points.now in
    let is : is_up_to k.last k.here ≡ true =
    ap (λ (p : Position). is_up_to p k.here) (sym c.last.ensures.last) ∙ ap (λ (p : Position). is_up_to c.last.result p) (sym c.here.ensures.here) ∙ sym c.is_up_to.ensures.value ∙ c.if-is_up_to.true in
    ok_always c.meet_nothing.result _ (here_shown k s (g.P.Progress.shown c.args.progress.now) (none_is_next k s not_met is refl))

pub returns-in-Some-clause-shown : goal.returns-in-Some-clause-shown
returns-in-Some-clause-shown g c =
    let k = c.args.walker in
    let s = c.args.points.now in
    let x : ℕ × Event = (c.in-Some.next.actor, c.in-Some.next.event) in
    let rs = c.records.result.now in
    let isnt : is_up_to k.last k.here ≡ false =
    ap (λ (p : Position). is_up_to p k.here) (sym c.last.ensures.last) ∙ ap (λ (p : Position). is_up_to c.last.result p) (sym c.here.ensures.here) ∙ sym c.is_up_to.ensures.value ∙ c.if-is_up_to.false in
    let later : next_event k.records k.here ≡ Some x =
    ap (λ (xs : List Record). next_event xs k.here) (sym c.records.ensures) ∙ ap (λ (p : Position). next_event rs p) (sym c.here-2.ensures.here) ∙ c.in-Some.ensures.0 in
    let there : c.in-Some.next.position ≡ next_position k.records k.here =
    c.in-Some.ensures.1 ∙ ap (λ (p : Position). next_position rs p) c.here-2.ensures.here ∙ ap (λ (xs : List Record). next_position xs k.here) c.records.ensures in
    next_shown k s c.go_on_past.result (λ r. (r.0.here, string_bytes r.1)) (g.P.Progress.shown c.args.progress.now) (g.P.Progress.shown c.go_on_past.new.progress)
    (IfOk-weaker c.go_on_past.result _ _ (λ r halts. next_halt k s x c.in-Some.next.position (r.0.here, string_bytes r.1) isnt later there halts) c.go_on_past.ensures.halt) c.go_on_past.ensures.shown

pub returns-in-None-clause-shown : goal.returns-in-None-clause-shown
returns-in-None-clause-shown g c =
    let k = c.args.walker in
    let s = c.args.points.now in
    let isnt : is_up_to k.last k.here ≡ false =
    ap (λ (p : Position). is_up_to p k.here) (sym c.last.ensures.last) ∙ ap (λ (p : Position). is_up_to c.last.result p) (sym c.here.ensures.here) ∙ sym c.is_up_to.ensures.value ∙ c.if-is_up_to.false in
    let none : next_event k.records k.here ≡ None =
    ap (λ (xs : List Record). next_event xs k.here) (sym c.records.ensures) ∙ ap (λ (p : Position). next_event c.records.result.now p) (sym c.here-2.ensures.here) ∙ c.in-None.ensures in
    ok_always c.meet_nothing-in-None.result _ (here_shown k s (g.P.Progress.shown c.args.progress.now) (none_is_below k s not_met isnt none refl))
