use Rattle.std.proofs.Common.{◌∙◌, ◌<◌, Option, ap, subst, sym}
use Rattle.mx_walk.specs.declared.positions.Position.{Position}
use Rattle.mx_walk.specs.Positions.{IsPosition}
use Rattle.mx_walk.specs.Walks.{Walk}
use Rattle.mx_app_gdb.specs.declared.halts.Halted.{Halted}
use Rattle.mx_app_gdb.specs.Moves.{IsComeFrom, LeadsOn, stands}
use Rattle.mx_app_gdb.proofs.Grown.{grown_trans}
use Rattle.mx_app_gdb.proofs.HaltedOn.{OnWay, events_to, fewer, leads_trans, left_of, on_more}
use Rattle.mx_app_gdb.proofs.OnToStep.{ending}
use Rattle.mx_app_gdb.proofs.SteppedOn.{come_law, come_there, led_there, none_of}
use Rattle.mx_app_gdb.proofs.stepping.come_to_step.Goals.{then-loop-walker-test+else-not-stands, else-loop-walker-test}
use Rattle.mx_app_gdb.proofs.stepping.come_to_step.Goals as goal

pub loop-walker-smaller : goal.loop-walker-smaller
loop-walker-smaller g c =
    let k = c.args.walker in
    let h = c.args.halts.now in
    let s = c.args.slot in
    let j = c.loop-walker.walker in
    let i = c.search_on.new.walker in
    let o = c.in_ok-halted.halted in
    let l = subst (λ (p : Position). IsPosition k.records p) c.last.ensures.last c.last.ensures.is.position in
    let none = none_of c.loop-walker.halted c.is_none.result c.is_none.ensures c.loop-walker-test.true in
    let way = subst (λ (n : Option Halted). OnWay k h (LeadsOn (IsComeFrom k h s) k.here) j n) none c.loop-walker.invariant.way in
    let e = c.in_ok-halted.ensures in
    subst (λ (n : Option Halted). left_of o (events_to k i.here) < left_of n (events_to k j.here)) (sym none)
    (fewer k h (LeadsOn (IsComeFrom k h s) k.here) ending j i way e.same e.position.0 e.position.1 o l e.searched)

pub loop-walker-preserved : goal.loop-walker-preserved
loop-walker-preserved g c =
    let k = c.args.walker in
    let h = c.args.halts.now in
    let s = c.args.slot in
    let j = c.loop-walker.walker in
    let i = c.search_on.new.walker in
    let o = c.in_ok-halted.halted in
    let l = subst (λ (p : Position). IsPosition k.records p) c.last.ensures.last c.last.ensures.is.position in
    let none = none_of c.loop-walker.halted c.is_none.result c.is_none.ensures c.loop-walker-test.true in
    let way = subst (λ (n : Option Halted). OnWay k h (LeadsOn (IsComeFrom k h s) k.here) j n) none c.loop-walker.invariant.way in
    let e = c.in_ok-halted.ensures in
    let away = ap (λ (w : Walk). stands w s) (sym way.walker) ∙ sym c.stands.ensures ∙ c.if-not-stands.true in
    record {
      way = on_more k h (LeadsOn (IsComeFrom k h s) k.here) ending j i way e.same e.position.0 e.position.1 o e.searched
          (λ p up t. leads_trans (IsComeFrom k h s) k.here j.here i.here o way.leads (come_law k h s j.here i.here o way.position l away p up t));
      grown = grown_trans _ _ _ c.loop-walker.invariant.grown e.grown;
    }

pub returns-clause-come : goal.returns-clause-come
returns-clause-come g c =
    let k = c.args.walker in
    let h = c.args.halts.now in
    let s = c.args.slot in
    let j = c.loop-walker.walker in
    let o = c.loop-walker.halted in
    let l = subst (λ (p : Position). IsPosition k.records p) c.last.ensures.last c.last.ensures.is.position in
    elim c.loop-walker-test.branch [
      | then-loop-walker-test+else-not-stands w ↦
          let none = none_of o c.is_none.result c.is_none.ensures w.loop-walker-test.true in
          let way = subst (λ (n : Option Halted). OnWay k h (LeadsOn (IsComeFrom k h s) k.here) j n) none c.loop-walker.invariant.way in
          subst (λ (n : Option Halted). IsComeFrom k h s k.here (j.here, n)) (sym none) (come_there k h s j way l (sym w.stands.ensures ∙ w.if-not-stands.false))
      | else-loop-walker-test w ↦ led_there (IsComeFrom k h s) k.here j.here o c.is_none.result c.is_none.ensures w.loop-walker-test.false c.loop-walker.invariant.way.leads
    ]
