use Rattle.std.proofs.Common.{◌<◌, Option, subst, sym}
use Rattle.mx_walk.specs.declared.positions.Position.{Position}
use Rattle.mx_walk.specs.Positions.{IsPosition, IsUpTo}
use Rattle.mx_walk.specs.Walks.{Walk}
use Rattle.mx_walk.proofs.Next.{up_to_of}
use Rattle.mx_app_gdb.specs.declared.halts.Halted.{Halted}
use Rattle.mx_app_gdb.specs.Moves.{IsHaltFrom}
use Rattle.mx_app_gdb.proofs.Grown.{grown_trans}
use Rattle.mx_app_gdb.proofs.HaltedOn.{OnWay, events_to, fewer, left_of, on_more}
use Rattle.mx_app_gdb.proofs.SteppedOn.{ComesTo, any_moving, comes_made, comes_on, halt_law, none_of}
use Rattle.mx_app_gdb.proofs.going.go_on.Goals as goal

pub loop-halted-init : goal.loop-halted-init
loop-halted-init g c =
    let k = c.args.walker in
    let h = c.args.halts.now in
    let j = c.in_ok-walker.walker in
    let e = c.in_ok-walker.ensures in
    let start = subst (λ (p : Position). IsPosition k.records p) c.here.ensures.here c.here.ensures.position in
    let position = subst (λ (p : Position). IsPosition j.records p) c.here-2.ensures.here c.here-2.ensures.position in
    let early = subst (λ (p : Position). IsUpTo p j.last) c.here-2.ensures.here c.here-2.ensures.early in
    record {
      way = record {
        walker = e.same;
        position = subst (λ (w : Walk). IsPosition w.records j.here) e.same position;
        early = subst (λ (w : Walk). IsUpTo j.here w.last) e.same early;
        leads = comes_made k h (IsHaltFrom k h) j.here c.in_ok-walker.halted c.requires.unchanged start e.made;
        on = λ none. up_to_of k.here j.here (e.on none);
        unchanged = e.unchanged;
      };
      grown = e.grown;
    }

pub loop-halted-smaller : goal.loop-halted-smaller
loop-halted-smaller g c =
    let k = c.args.walker in
    let h = c.args.halts.now in
    let j = c.loop-halted.walker in
    let i = c.search_on.new.walker in
    let o = c.in_ok-halted.halted in
    let l = subst (λ (p : Position). IsPosition k.records p) c.last.ensures.last c.last.ensures.is.position in
    let none = none_of c.loop-halted.halted c.is_none.result c.is_none.ensures c.loop-halted-test.true in
    let way = subst (λ (n : Option Halted). OnWay k h (ComesTo k h (IsHaltFrom k h)) j n) none c.loop-halted.invariant.way in
    let e = c.in_ok-halted.ensures in
    subst (λ (n : Option Halted). left_of o (events_to k i.here) < left_of n (events_to k j.here)) (sym none)
    (fewer k h (ComesTo k h (IsHaltFrom k h)) (any_moving c.new-nothing.result) j i way e.same e.position.0 e.position.1 o l e.searched)

pub loop-halted-preserved : goal.loop-halted-preserved
loop-halted-preserved g c =
    let k = c.args.walker in
    let h = c.args.halts.now in
    let j = c.loop-halted.walker in
    let i = c.search_on.new.walker in
    let o = c.in_ok-halted.halted in
    let none = none_of c.loop-halted.halted c.is_none.result c.is_none.ensures c.loop-halted-test.true in
    let way = subst (λ (n : Option Halted). OnWay k h (ComesTo k h (IsHaltFrom k h)) j n) none c.loop-halted.invariant.way in
    let e = c.in_ok-halted.ensures in
    record {
      way = on_more k h (ComesTo k h (IsHaltFrom k h)) (any_moving c.new-nothing.result) j i way e.same e.position.0 e.position.1 o e.searched
          (λ p up t. comes_on k h (IsHaltFrom k h) j.here i.here o way.leads (halt_law k h (any_moving c.new-nothing.result) j.here i.here o t));
      grown = grown_trans _ _ _ c.loop-halted.invariant.grown e.grown;
    }
