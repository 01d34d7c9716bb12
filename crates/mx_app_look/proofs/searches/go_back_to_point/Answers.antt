use Rattle.std.proofs.Common.{◌≡◌, ◌∙◌, ◌++◌, List, Some, None, ap, subst, sym}
use Rattle.std.proofs.lemmas.Result.{IfOk-weaker}
use Rattle.mx_machine.specs.declared.history.Record.{Record}
use Rattle.mx_walk.specs.declared.positions.Position.{Position}
use Rattle.mx_walk.specs.Positions.{IsPosition, IsUpTo, next_event, next_position}
use Rattle.mx_walk.specs.Walks.{Walk}
use Rattle.mx_walk.proofs.Next.{is_position_too}
use Rattle.mx_app_look.specs.Marks.{is_looked_for}
use Rattle.mx_app_look.specs.Shows.{return_shown}
use Rattle.mx_app_look.proofs.Coming.{last_halt, next_is_early, no_last_halt, some_below}
use Rattle.mx_app_look.proofs.Halted.{both_hold}
use Rattle.mx_app_look.proofs.ShownMore.{back_shown, err_always, err_weaker, grown_by, grown_more, none_before, ok_always, ok_weaker}
use Rattle.mx_app_look.proofs.searches.go_back_to_point.Goals as goal

pub returns-then-not-found-clause-walker : goal.returns-then-not-found-clause-walker
returns-then-not-found-clause-walker g c =
    let k = c.args.walker in
    IfOk-weaker c.meet_nothing.result _ _ (λ r e. e.0 ∙ c.in_ok-walker.ensures.same ∙ ap (λ (w : Walk). let i : Walk = record k { here = w.here } in i) (sym e.0)) c.meet_nothing.ensures

pub returns-then-not-found-clause-halt : goal.returns-then-not-found-clause-halt
returns-then-not-found-clause-halt g c =
    let n = c.in_ok-walker.ensures.nowhere c.if-not-found.true in
    IfOk-weaker c.meet_nothing.result _ _ (λ r e. no_last_halt c.args.walker c.args.points.now r.0 _ (ap (λ (w : Walk). w.here) e.0 ∙ n.0) n.1 e.1) c.meet_nothing.ensures

pub returns-then-not-found-clause-shown : goal.returns-then-not-found-clause-shown
returns-then-not-found-clause-shown g c =
    let n = c.in_ok-walker.ensures.nowhere c.if-not-found.true in
    ok_always c.meet_nothing.result _ (none_before c.args.walker (is_looked_for c.args.points.now) c.in_ok-walker.walker.here (g.P.Progress.shown c.args.progress.now) (g.P.Progress.shown c.seek_back.new.progress) n.0 n.1 c.in_ok-walker.ensures.shown)

pub returns-then-not-found-clause-grown : goal.returns-then-not-found-clause-grown
returns-then-not-found-clause-grown g c = err_always c.meet_nothing.result _ (grown_by _ _ _ c.in_ok-walker.ensures.shown)

pub see_changes-requires-clause-position : goal.see_changes-requires-clause-position
see_changes-requires-clause-position g c =
    let j = c.in_ok-walker.walker in
    let p = c.here-halt.result in
    let later : next_event j.records p ≡ Some (c.in-Some.next.actor, c.in-Some.next.event) = ap (λ (rs : List Record). next_event rs p) (sym c.records.ensures) ∙ c.in-Some.ensures.0 in
    subst (λ (q : Position). IsPosition j.records q) (sym (c.in-Some.ensures.1 ∙ ap (λ (rs : List Record). next_position rs p) c.records.ensures))
    (is_position_too j.records p (c.in-Some.next.actor, c.in-Some.next.event) c.here-halt.ensures.position later)

pub see_changes-requires-clause-early : goal.see_changes-requires-clause-early
see_changes-requires-clause-early g c =
    let k = c.args.walker in
    let j = c.in_ok-walker.walker in
    let p = c.here-halt.result in
    let found = c.in_ok-walker.ensures.found c.if-not-found.false in
    let later : next_event j.records p ≡ Some (c.in-Some.next.actor, c.in-Some.next.event) = ap (λ (rs : List Record). next_event rs p) (sym c.records.ensures) ∙ c.in-Some.ensures.0 in
    let position = subst (λ (q : Position). IsPosition j.records q) c.here-halt.ensures.here c.here-halt.ensures.position in
    let l = subst (λ (q : Position). IsPosition k.records q) c.here.ensures.here c.here.ensures.position in
    let early = subst (λ (q : Position). IsUpTo q k.last) c.here.ensures.here c.here.ensures.early in
    next_is_early k c.args.points.now j c.in_ok-walker.ensures.same position l found (c.in-Some.next.actor, c.in-Some.next.event) c.in-Some.next.position early
    (subst (λ (q : Position). next_event j.records q ≡ Some (c.in-Some.next.actor, c.in-Some.next.event)) c.here-halt.ensures.here later)
    (c.in-Some.ensures.1 ∙ ap (λ (rs : List Record). next_position rs p) c.records.ensures ∙ ap (λ (q : Position). next_position j.records q) c.here-halt.ensures.here)

pub unreachable-requires : goal.unreachable-requires
unreachable-requires g c =
    let k = c.args.walker in
    let j = c.in_ok-walker.walker in
    let p = c.here-halt.result in
    let found = c.in_ok-walker.ensures.found c.if-not-found.false in
    let none : next_event j.records p ≡ None = ap (λ (rs : List Record). next_event rs p) (sym c.records.ensures) ∙ c.in-None.ensures in
    let l = subst (λ (q : Position). IsPosition k.records q) c.here.ensures.here c.here.ensures.position in
    let position = subst (λ (q : Position). IsPosition j.records q) c.here-halt.ensures.here c.here-halt.ensures.position in
    some_below k c.args.points.now j c.in_ok-walker.ensures.same position l found (subst (λ (q : Position). next_event j.records q ≡ None) c.here-halt.ensures.here none)

pub returns-clause-walker : goal.returns-clause-walker
returns-clause-walker g c =
    let k = c.args.walker in
    IfOk-weaker c.see_changes.result _ _ (λ r e. e ∙ c.in_ok-walker.ensures.same ∙ ap (λ (w : Walk). let i : Walk = record k { here = w.here } in i) (sym e)) c.see_changes.ensures.same

pub returns-clause-halt : goal.returns-clause-halt
returns-clause-halt g c =
    let k = c.args.walker in
    let s = c.args.points.now in
    let j = c.in_ok-walker.walker in
    let p = c.here-halt.result in
    let here = c.here-halt.ensures.here in
    let position = subst (λ (q : Position). IsPosition j.records q) here c.here-halt.ensures.position in
    let there = c.in-Some.ensures.1 ∙ ap (λ (rs : List Record). next_position rs p) c.records.ensures ∙ ap (λ (q : Position). next_position j.records q) here in
    both_hold c.see_changes.result _ _ _ (λ r same changes. last_halt k s j r.0 c.in-Some.next.position _ c.in_ok-walker.ensures.same position (c.in_ok-walker.ensures.found c.if-not-found.false) there changes (ap (λ (w : Walk). w.here) same))
    c.see_changes.ensures.same c.see_changes.ensures.changes

pub returns-clause-shown : goal.returns-clause-shown
returns-clause-shown g c =
    let k = c.args.walker in
    let s = c.args.points.now in
    let j = c.in_ok-walker.walker in
    let p = c.here-halt.result in
    let here = c.here-halt.ensures.here in
    let position = subst (λ (q : Position). IsPosition j.records q) here c.here-halt.ensures.position in
    let there = c.in-Some.ensures.1 ∙ ap (λ (rs : List Record). next_position rs p) c.records.ensures ∙ ap (λ (q : Position). next_position j.records q) here in
    let now = g.P.Progress.shown c.seek_back.new.progress in
    let after = g.P.Progress.shown c.see_changes.new.progress in
    ok_weaker c.see_changes.result _ _ (λ (shown : after ≡ now ++ return_shown j j.here c.in-Some.next.position).
    back_shown k (is_looked_for s) j c.in-Some.next.position (g.P.Progress.shown c.args.progress.now) now after c.in_ok-walker.ensures.same position (c.in_ok-walker.ensures.found c.if-not-found.false) there c.in_ok-walker.ensures.shown shown) c.see_changes.ensures.shown

pub returns-in_err-walker-clause-grown : goal.returns-in_err-walker-clause-grown
returns-in_err-walker-clause-grown g c = err_always c.from_residual.result _ c.in_err-walker.ensures.grown

pub returns-clause-grown : goal.returns-clause-grown
returns-clause-grown g c = err_weaker c.see_changes.result _ _ (λ more. grown_more _ _ _ (grown_by _ _ _ c.in_ok-walker.ensures.shown) more) c.see_changes.ensures.grown
