use Rattle.std.proofs.Common.{◌≡◌, ◌∙◌, ◌++◌, ap, inr, arith}
use Rattle.std.proofs.lemmas.Result.{IfOk-weaker}
use Rattle.mx_walk.specs.declared.positions.Position.{Position}
use Rattle.mx_walk.specs.Walks.{Walk, shown_to}
use Rattle.mx_app_look.proofs.ShownMore.{ok_always, ok_weaker}
use Rattle.mx_app_look.proofs.going_until.go_on_unmet.Goals as goal

pub go_to-requires-clause-position : goal.go_to-requires-clause-position
go_to-requires-clause-position g c = c.last-last.ensures.is.position

pub go_to-requires-clause-early : goal.go_to-requires-clause-early
go_to-requires-clause-early g c =
    let last = c.last-last.ensures.last in
    let steps = ap (λ (p : Position). p.steps) last in
    inr (ap (λ (p : Position). p.records) last, omega (arith, steps))

pub returns-clause-walker : goal.returns-clause-walker
returns-clause-walker g c =
    let k = c.args.walker in
    IfOk-weaker c.go_to.result _ _ (λ (u : Walk) gone. gone ∙ ap (λ (p : Position). let i : Walk = record k { here = p } in i) c.last-last.ensures.last) c.go_to.ensures.gone

pub returns-clause-text : goal.returns-clause-text
returns-clause-text g c = ok_always c.go_to.result _ c.in_ok-extend_from_slice.ensures.items

pub returns-clause-shown : goal.returns-clause-shown
returns-clause-shown g c =
    let k = c.args.walker in
    let now = g.P.Progress.shown c.args.progress.now in
    ok_weaker c.go_to.result _ _ (λ (shown : g.P.Progress.shown c.go_to.new.progress ≡ now ++ shown_to k c.last-last.result).
    shown ∙ ap (λ (p : Position). now ++ shown_to k p) c.last-last.ensures.last) c.go_to.ensures.shown
