use Rattle.std.proofs.Common.{◌≡◌, ◌∙◌, ◌<◌, ◌++◌, length, ap, subst, sym}
use Rattle.std.proofs.lemmas.Result.{IfOk-weaker}
use Rattle.mx_walk.specs.declared.positions.Position.{Position}
use Rattle.mx_walk.specs.Positions.{IsPosition, IsUpTo}
use Rattle.mx_walk.specs.Walks.{Walk}
use Rattle.mx_app_look.specs.Happenings.{is_happening}
use Rattle.mx_app_look.specs.Shows.{return_shown}
use Rattle.mx_app_look.specs.Until.{past}
use Rattle.mx_app_look.proofs.Happened.{both_of, inside_it, is_made, is_read, last_happened, none_happened, past_is_early, past_is_next}
use Rattle.mx_app_look.proofs.ShownMore.{back_shown, err_always, err_weaker, grown_by, grown_more, none_before, ok_weaker}
use Rattle.mx_app_look.proofs.going_until.go_back_until.Goals as goal

pub returns-then-not-found-clause-halt : goal.returns-then-not-found-clause-halt
returns-then-not-found-clause-halt g c =
    let n = c.in_ok-walker.ensures.nowhere c.if-not-found.true in
    none_happened c.args.walker c.in_ok-walker.walker c.args.happening c.args.out.now.items c.extend_from_slice.new.self.items n.0 n.1 c.in_ok-extend_from_slice.ensures.items

pub returns-then-not-found-clause-shown : goal.returns-then-not-found-clause-shown
returns-then-not-found-clause-shown g c =
    let n = c.in_ok-walker.ensures.nowhere c.if-not-found.true in
    none_before c.args.walker (is_happening c.args.happening) c.in_ok-walker.walker.here (g.P.Progress.shown c.args.progress.now) (g.P.Progress.shown c.seek_back.new.progress) n.0 n.1 c.in_ok-walker.ensures.shown

pub returns-in_err-walker-clause-grown : goal.returns-in_err-walker-clause-grown
returns-in_err-walker-clause-grown g c = err_always c.from_residual.result _ c.in_err-walker.ensures.grown

pub returns-in_err-extend_from_slice-clause-grown : goal.returns-in_err-extend_from_slice-clause-grown
returns-in_err-extend_from_slice-clause-grown g c = err_always c.from_residual-in_err-extend_from_slice.result _ (grown_by _ _ _ c.in_ok-walker.ensures.shown)

pub bounds-records-earlier : goal.bounds-records-earlier
bounds-records-earlier g c =
    let k = c.args.walker in
    let j = c.in_ok-walker.walker in
    let l = subst (λ (q : Position). IsPosition k.records q) c.here-earlier.ensures.here c.here-earlier.ensures.position in
    let there = subst (λ (q : Position). IsPosition j.records q) c.here-earlier-2.ensures.here c.here-earlier-2.ensures.position in
    let found = c.in_ok-walker.ensures.found c.if-not-found.false in
    let inside = inside_it k c.args.happening j c.in_ok-walker.ensures.same there l found c.here-earlier-2.result c.here-earlier-2.ensures.here in
    subst (λ rs. c.here-earlier-2.result.records < length rs) (sym c.records.ensures) inside

pub push_record_after-requires-clause-there : goal.push_record_after-requires-clause-there
push_record_after-requires-clause-there g c =
    let k = c.args.walker in
    let j = c.in_ok-walker.walker in
    let l = subst (λ (q : Position). IsPosition k.records q) c.here-earlier.ensures.here c.here-earlier.ensures.position in
    let there = subst (λ (q : Position). IsPosition j.records q) c.here-earlier-2.ensures.here c.here-earlier-2.ensures.position in
    let found = c.in_ok-walker.ensures.found c.if-not-found.false in
    let early = subst (λ (q : Position). IsUpTo q k.last) c.here-earlier.ensures.here c.here-earlier.ensures.early in
    past_is_early k c.args.happening j c.in_ok-walker.ensures.same there l found c.here-earlier-2.result c.here-earlier-2.ensures.here early

pub push_record_after-requires-clause-here : goal.push_record_after-requires-clause-here
push_record_after-requires-clause-here g c =
    let k = c.args.walker in
    let j = c.in_ok-walker.walker in
    let l = subst (λ (q : Position). IsPosition k.records q) c.here-earlier.ensures.here c.here-earlier.ensures.position in
    let there = subst (λ (q : Position). IsPosition j.records q) c.here-earlier-2.ensures.here c.here-earlier-2.ensures.position in
    let found = c.in_ok-walker.ensures.found c.if-not-found.false in
    is_made k c.args.happening j c.in_ok-walker.ensures.same there l found c.here-earlier-2.result c.here-earlier-2.ensures.here c.records.result.now c.records.ensures

pub push_record_after-requires-clause-entry : goal.push_record_after-requires-clause-entry
push_record_after-requires-clause-entry g c =
    let k = c.args.walker in
    let j = c.in_ok-walker.walker in
    let l = subst (λ (q : Position). IsPosition k.records q) c.here-earlier.ensures.here c.here-earlier.ensures.position in
    let there = subst (λ (q : Position). IsPosition j.records q) c.here-earlier-2.ensures.here c.here-earlier-2.ensures.position in
    let found = c.in_ok-walker.ensures.found c.if-not-found.false in
    is_read k c.args.happening j c.in_ok-walker.ensures.same there l found c.here-earlier-2.result c.here-earlier-2.ensures.here c.records.result.now c.records.ensures

pub returns-clause-walker : goal.returns-clause-walker
returns-clause-walker g c =
    let k = c.args.walker in
    IfOk-weaker c.push_record_after.result _ _ (λ (w : Walk) e. e ∙ c.in_ok-walker.ensures.same ∙ ap (λ (v : Walk). let i : Walk = record k { here = v.here } in i) (sym e)) c.push_record_after.ensures.same

pub returns-clause-halt : goal.returns-clause-halt
returns-clause-halt g c =
    let k = c.args.walker in
    let j = c.in_ok-walker.walker in
    let l = subst (λ (q : Position). IsPosition k.records q) c.here-earlier.ensures.here c.here-earlier.ensures.position in
    let there = subst (λ (q : Position). IsPosition j.records q) c.here-earlier-2.ensures.here c.here-earlier-2.ensures.position in
    let found = c.in_ok-walker.ensures.found c.if-not-found.false in
    both_of c.push_record_after.result _ _ _ (λ w same added.
    last_happened k c.args.happening j c.in_ok-walker.ensures.same there l found c.here-earlier-2.result c.here-earlier-2.ensures.here c.records.result.now c.records.ensures w c.args.out.now.items c.push_record_after.new.out.items same added)
    c.push_record_after.ensures.same c.push_record_after.ensures.text

pub returns-clause-shown : goal.returns-clause-shown
returns-clause-shown g c =
    let k = c.args.walker in
    let j = c.in_ok-walker.walker in
    let l = subst (λ (q : Position). IsPosition k.records q) c.here-earlier.ensures.here c.here-earlier.ensures.position in
    let there = subst (λ (q : Position). IsPosition j.records q) c.here-earlier-2.ensures.here c.here-earlier-2.ensures.position in
    let found = c.in_ok-walker.ensures.found c.if-not-found.false in
    let next = past c.here-earlier-2.result.records in
    let now = g.P.Progress.shown c.seek_back.new.progress in
    let after = g.P.Progress.shown c.push_record_after.new.progress in
    ok_weaker c.push_record_after.result _ _ (λ (shown : after ≡ now ++ return_shown j j.here next).
    back_shown k (is_happening c.args.happening) j next (g.P.Progress.shown c.args.progress.now) now after c.in_ok-walker.ensures.same there found
    (past_is_next k c.args.happening j c.in_ok-walker.ensures.same there l found c.here-earlier-2.result c.here-earlier-2.ensures.here) c.in_ok-walker.ensures.shown shown) c.push_record_after.ensures.shown

pub returns-clause-grown : goal.returns-clause-grown
returns-clause-grown g c = err_weaker c.push_record_after.result _ _ (λ more. grown_more _ _ _ (grown_by _ _ _ c.in_ok-walker.ensures.shown) more) c.push_record_after.ensures.grown
