use Rattle.std.proofs.Common.{◌∙◌, ◌<◌, Option, ap, subst, sym}
use Rattle.mx_walk.specs.declared.positions.Position.{Position}
use Rattle.mx_walk.specs.Positions.{IsPosition}
use Rattle.mx_walk.specs.Walks.{Walk}
use Rattle.mx_app_gdb.specs.declared.halts.Halted.{Halted}
use Rattle.mx_app_gdb.specs.Moves.{IsSearchedOn, IsSteppedFrom, LeadsOn, Marks, stands_in}
use Rattle.mx_app_gdb.proofs.Grown.{grown_trans}
use Rattle.mx_app_gdb.proofs.HaltedOn.{OnWay, events_to, fewer, leads_trans, left_of, on_more}
use Rattle.mx_app_gdb.proofs.InRange.{leaving, leaving_is}
use Rattle.mx_app_gdb.proofs.SteppedOn.{none_of, range_law}
use Rattle.mx_app_gdb.proofs.stepping.leave_range.Goals as goal

pub loop-walker-smaller : goal.loop-walker-smaller
loop-walker-smaller g c =
    let k = c.args.walker in
    let h = c.args.halts.now in
    let s = c.args.slot in
    let r = c.args.range in
    let j = c.loop-walker.walker in
    let i = c.search_on.new.walker in
    let o = c.in_ok-halted.halted in
    let l = subst (λ (p : Position). IsPosition k.records p) c.last.ensures.last c.last.ensures.is.position in
    let none = none_of c.loop-walker.halted c.is_none.result c.is_none.ensures c.loop-walker-test.true in
    let way = subst (λ (n : Option Halted). OnWay k h (LeadsOn (IsSteppedFrom k h s r) k.here) j n) none c.loop-walker.invariant.way in
    let e = c.in_ok-halted.ensures in
    let same = leaving_is k h s r c.new-mark.result c.new.result c.new-mark.ensures.one c.new.ensures.slot c.new.ensures.range in
    let searched = subst (λ (f : Marks). IsSearchedOn j h f (i.here, o)) same e.searched in
    subst (λ (n : Option Halted). left_of o (events_to k i.here) < left_of n (events_to k j.here)) (sym none)
    (fewer k h (LeadsOn (IsSteppedFrom k h s r) k.here) (leaving k h s r) j i way e.same e.position.0 e.position.1 o l searched)

pub loop-walker-preserved : goal.loop-walker-preserved
loop-walker-preserved g c =
    let k = c.args.walker in
    let h = c.args.halts.now in
    let s = c.args.slot in
    let r = c.args.range in
    let j = c.loop-walker.walker in
    let i = c.search_on.new.walker in
    let o = c.in_ok-halted.halted in
    let l = subst (λ (p : Position). IsPosition k.records p) c.last.ensures.last c.last.ensures.is.position in
    let none = none_of c.loop-walker.halted c.is_none.result c.is_none.ensures c.loop-walker-test.true in
    let way = subst (λ (n : Option Halted). OnWay k h (LeadsOn (IsSteppedFrom k h s r) k.here) j n) none c.loop-walker.invariant.way in
    let e = c.in_ok-halted.ensures in
    let same = leaving_is k h s r c.new-mark.result c.new.result c.new-mark.ensures.one c.new.ensures.slot c.new.ensures.range in
    let searched = subst (λ (f : Marks). IsSearchedOn j h f (i.here, o)) same e.searched in
    let in_it = ap (λ (w : Walk). stands_in w s r) (sym way.walker) ∙ sym c.stands_in.ensures ∙ c.if-stands_in.true in
    record {
      way = on_more k h (LeadsOn (IsSteppedFrom k h s r) k.here) (leaving k h s r) j i way e.same e.position.0 e.position.1 o searched
          (λ p up t. leads_trans (IsSteppedFrom k h s r) k.here j.here i.here o way.leads (range_law k h s r j.here i.here o l way.position in_it p up t));
      grown = grown_trans _ _ _ c.loop-walker.invariant.grown e.grown;
    }
