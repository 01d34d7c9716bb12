use Rattle.std.proofs.Common.{◌≡◌, ◌∙◌, ◌++◌, List, ap, subst, sym}
use Rattle.std.proofs.lemmas.Result.{IfOk-weaker}
use Rattle.mx_look.specs.declared.transition.Transition.{Transition}
use Rattle.mx_look.specs.Trace.{record_text}
use Rattle.mx_machine.specs.declared.history.Record.{Record}
use Rattle.mx_walk.specs.declared.positions.Position.{Position}
use Rattle.mx_walk.specs.Positions.{IsPosition}
use Rattle.mx_walk.specs.Walks.{Walk, shown_to}
use Rattle.mx_app_look.specs.Until.{past}
use Rattle.mx_app_look.proofs.Moving.{records_up_to}
use Rattle.mx_app_look.proofs.ShownMore.{err_always, err_weaker, grown_by, grown_more, grown_same, ok_always, ok_weaker, returned_shown}
use Rattle.mx_app_look.proofs.world_texts.push_record_after.Goals as goal

pub see_record-requires-clause-there : goal.see_record-requires-clause-there
see_record-requires-clause-there g c = records_up_to (past c.args.placed.earlier) c.args.walker.last c.requires.there

pub go_to-requires-clause-position : goal.go_to-requires-clause-position
go_to-requires-clause-position g c =
    subst (λ (rs : List Record). IsPosition rs c.here-here.result) (sym (ap (λ (w : Walk). w.records) c.in_ok-walker.ensures.walker)) c.here-here.ensures.position

pub returns-clause-same : goal.returns-clause-same
returns-clause-same g c =
    let k = c.args.walker in
    IfOk-weaker c.go_to.result _ _ (λ (w : Walk) gone.
    gone ∙ ap (λ (v : Walk). let i : Walk = record v { here = c.here-here.result } in i) c.in_ok-walker.ensures.walker
    ∙ ap (λ (p : Position). let i : Walk = record k { here = p } in i) c.here-here.ensures.here) c.go_to.ensures.gone

pub returns-clause-text : goal.returns-clause-text
returns-clause-text g c =
    ok_always c.go_to.result _ (c.in_ok-push_record.ensures ∙ ap (λ (t : Transition). c.args.out.now.items ++ record_text t) c.in_ok-walker.ensures.transition)

pub returns-clause-shown : goal.returns-clause-shown
returns-clause-shown g c =
    let k = c.args.walker in
    let placed = c.args.placed in
    let now = g.P.Progress.shown c.see_record.new.progress in
    let after = g.P.Progress.shown c.go_to.new.progress in
    ok_weaker c.go_to.result _ _ (λ (shown : after ≡ now ++ shown_to c.in_ok-walker.walker c.here-here.result).
    returned_shown k c.in_ok-walker.walker placed.earlier placed.entry c.here-here.result (g.P.Progress.shown c.args.progress.now) now after c.requires.here c.in_ok-walker.ensures.walker c.here-here.ensures.here c.in_ok-walker.ensures.shown shown)
    c.go_to.ensures.shown

pub returns-in_err-walker-clause-grown : goal.returns-in_err-walker-clause-grown
returns-in_err-walker-clause-grown g c = err_always c.from_residual.result _ c.in_err-walker.ensures.grown

pub returns-in_err-push_record-clause-grown : goal.returns-in_err-push_record-clause-grown
returns-in_err-push_record-clause-grown g c = err_always c.from_residual-in_err-push_record.result _ (grown_by _ _ _ c.in_ok-walker.ensures.shown)

pub returns-clause-grown : goal.returns-clause-grown
returns-clause-grown g c = err_weaker c.go_to.result _ _ (λ same. grown_more _ _ _ (grown_by _ _ _ c.in_ok-walker.ensures.shown) (grown_same _ _ same)) c.go_to.ensures.unshown
