use Rattle.std.proofs.Common.{◌≡◌, ◌∙◌, ◌<◌, Option, ap, subst, sym}
use Rattle.mx_walk.specs.declared.positions.Position.{Position}
use Rattle.mx_walk.specs.Positions.{IsPosition, IsUpTo}
use Rattle.mx_walk.specs.Walks.{Walk}
use Rattle.mx_app_gdb.specs.declared.halts.Halted.{Halted}
use Rattle.mx_app_gdb.specs.Moves.{at}
use Rattle.mx_app_gdb.proofs.Grown.{grown_trans}
use Rattle.mx_app_gdb.proofs.HaltedOn.{events_to, left_of}
use Rattle.mx_app_gdb.proofs.SteppedOn.{OnSteps, fewer_left, none_of, steps_more}
use Rattle.mx_app_gdb.proofs.stepping.step_on.Goals as goal

pub loop-halted-smaller : goal.loop-halted-smaller
loop-halted-smaller g c =
    let k = c.args.walker in
    let h = c.args.halts.now in
    let s = c.args.slot in
    let r = c.args.range in
    let j = c.loop-halted.walker in
    let i = c.in_ok-gone.gone in
    let o = c.in_ok-gone.why in
    let e = c.in_ok-gone.ensures in
    let none = none_of c.loop-halted.halted c.is_none.result c.is_none.ensures c.loop-halted-test.true in
    let way = subst (λ (n : Option Halted). OnSteps k h s r j n) none c.loop-halted.invariant.way in
    let there : i ≡ at k i.here = e.same ∙ ap (λ (w : Walk). at w i.here) way.walker in
    let here = c.here-in-loop-halted.ensures in
    let position = subst (λ (w : Walk). IsPosition w.records i.here) there (subst (λ (p : Position). IsPosition i.records p) here.here here.position) in
    let early = subst (λ (w : Walk). IsUpTo i.here w.last) there (subst (λ (p : Position). IsUpTo p i.last) here.here here.early) in
    let l = subst (λ (p : Position). IsPosition k.records p) c.last.ensures.last c.last.ensures.is.position in
    subst (λ (n : Option Halted). left_of o (events_to k i.here) < left_of n (events_to k j.here)) (sym none)
    (fewer_left k j.here i.here o c.loop-halted.invariant.position position l early e.later)

pub loop-halted-preserved : goal.loop-halted-preserved
loop-halted-preserved g c =
    let k = c.args.walker in
    let h = c.args.halts.now in
    let s = c.args.slot in
    let r = c.args.range in
    let j = c.loop-halted.walker in
    let i = c.in_ok-gone.gone in
    let o = c.in_ok-gone.why in
    let e = c.in_ok-gone.ensures in
    let none = none_of c.loop-halted.halted c.is_none.result c.is_none.ensures c.loop-halted-test.true in
    let way = subst (λ (n : Option Halted). OnSteps k h s r j n) none c.loop-halted.invariant.way in
    let there : i ≡ at k i.here = e.same ∙ ap (λ (w : Walk). at w i.here) way.walker in
    let here = c.here-in-loop-halted.ensures in
    let position = subst (λ (w : Walk). IsPosition w.records i.here) there (subst (λ (p : Position). IsPosition i.records p) here.here here.position) in
    let early = subst (λ (w : Walk). IsUpTo i.here w.last) there (subst (λ (p : Position). IsUpTo p i.last) here.here here.early) in
    record {
      way = steps_more k h s r j i o way e.same e.stepped e.there;
      position = position;
      early = early;
      grown = grown_trans _ _ _ c.loop-halted.invariant.grown e.grown;
    }
