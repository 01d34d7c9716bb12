use Rattle.std.proofs.Common.{◌∙◌, subst, sym}
use Rattle.std.proofs.lemmas.Result.{IfOk-weaker}
use Rattle.mx_walk.specs.declared.positions.Position.{Position}
use Rattle.mx_walk.specs.Positions.{IsPosition}
use Rattle.mx_app_gdb.proofs.SteppedOn.{come_made, come_on}
use Rattle.mx_app_gdb.proofs.stepping.go_to_step.Goals as goal

pub returns-then-is_some-clause-come : goal.returns-then-is_some-clause-come
returns-then-is_some-clause-come g c =
    let k = c.args.walker in
    let start = subst (λ (p : Position). IsPosition k.records p) c.here.ensures.here c.here.ensures.position in
    come_made k c.args.halts.now c.args.slot c.requires.unchanged start (sym c.stands.ensures ∙ c.if-stands.false) c.in_ok-walker.walker.here c.in_ok-walker.halted c.in_ok-walker.ensures.made
    (sym c.is_some.ensures ∙ c.if-is_some.true)

pub returns-clause-come : goal.returns-clause-come
returns-clause-come g c =
    let k = c.args.walker in
    let start = subst (λ (p : Position). IsPosition k.records p) c.here.ensures.here c.here.ensures.position in
    IfOk-weaker c.come_to_step.result _ _ (λ r e.
    come_on k c.args.halts.now c.args.slot c.requires.unchanged start (sym c.stands.ensures ∙ c.if-stands.false) c.in_ok-walker.walker c.in_ok-walker.halted (r.0.here, r.1) c.in_ok-walker.ensures.same c.in_ok-walker.ensures.made
    (sym c.is_some.ensures ∙ c.if-is_some.false) e) c.come_to_step.ensures.come
