use Rattle.std.proofs.Common.{◌∙◌, ap, refl, subst}
use Rattle.std.specs.Prelude.{unwrap_or}
use Rattle.mx_walk.specs.declared.positions.Position.{Position}
use Rattle.mx_walk.specs.Positions.{IsPosition, IsUpTo}
use Rattle.mx_app_gdb.proofs.HaltedOn.{after_event, halts_before, halts_nowhere, told_as, told_by}
use Rattle.mx_app_gdb.proofs.moving.search_on.Goals as goal

pub returns-in-Before-clause-searched : goal.returns-in-Before-clause-searched
returns-in-Before-clause-searched g c =
    let k = c.args.walker.now in
    let h = c.args.halts.now in
    let marks = g.M.Mark.marks in
    let all = c.new-all.result in
    let same = told_as marks k h all c.in_ok-points.points c.new-others.result c.new.result c.args.mark c.new-all.ensures.one c.new-all.ensures.other c.new-others.ensures.one c.new-others.ensures.other
    c.in_ok-points.ensures.bytes c.in_ok-points.ensures.places c.new.ensures in
    let there = c.as_slice.ensures.value ∙ c.in_ok-places.ensures in
    let j = c.seek_halt-halt.new.self in
    let i = subst (λ (p : Position). IsPosition j.records p) c.here-2.ensures.here c.here-2.ensures.position in
    let up = subst (λ (p : Position). IsUpTo p j.last) c.here-2.ensures.here c.here-2.ensures.early in
    let l = subst (λ (p : Position). IsPosition k.records p) c.last.ensures.last c.last.ensures.is.position in
    halts_before k h (marks c.args.mark) (told_by marks all) c.as_slice.result.now same there j c.in-Before.ensures.same i up l c.in-Before.ensures.unleft c.in-Before.ensures.halted c.unwrap_or-slot.result
    (c.unwrap_or-slot.ensures ∙ ap (λ o. unwrap_or o h.mover) c.slot_next.ensures)

pub returns-in-After-clause-searched : goal.returns-in-After-clause-searched
returns-in-After-clause-searched g c =
    let k = c.args.walker.now in
    let h = c.args.halts.now in
    let marks = g.M.Mark.marks in
    let all = c.new-all.result in
    let same = told_as marks k h all c.in_ok-points.points c.new-others.result c.new.result c.args.mark c.new-all.ensures.one c.new-all.ensures.other c.new-others.ensures.one c.new-others.ensures.other
    c.in_ok-points.ensures.bytes c.in_ok-points.ensures.places c.new.ensures in
    let there = c.as_slice.ensures.value ∙ c.in_ok-places.ensures in
    let j = c.seek_halt-halt.new.self in
    let i = subst (λ (p : Position). IsPosition j.records p) c.here-2.ensures.here c.here-2.ensures.position in
    let up = subst (λ (p : Position). IsUpTo p j.last) c.here-2.ensures.here c.here-2.ensures.early in
    let l = subst (λ (p : Position). IsPosition k.records p) c.last.ensures.last c.last.ensures.is.position in
    let start = subst (λ (p : Position). IsPosition k.records p) c.here.ensures.here c.here.ensures.position in
    after_event k h (marks c.args.mark) (told_by marks all) c.as_slice.result.now same there j c.in-After.ensures.same i up l c.in-After.ensures.unleft start c.requires.unchanged c.in-After.ensures.halted
    c.in_ok-halted_here-in-After.field-0 c.in_ok-halted_here-in-After.ensures

pub returns-clause-searched : goal.returns-clause-searched
returns-clause-searched g c =
    let k = c.args.walker.now in
    let h = c.args.halts.now in
    let marks = g.M.Mark.marks in
    let all = c.new-all.result in
    let same = told_as marks k h all c.in_ok-points.points c.new-others.result c.new.result c.args.mark c.new-all.ensures.one c.new-all.ensures.other c.new-others.ensures.one c.new-others.ensures.other
    c.in_ok-points.ensures.bytes c.in_ok-points.ensures.places c.new.ensures in
    let there = c.as_slice.ensures.value ∙ c.in_ok-places.ensures in
    let j = c.seek_halt-halt.new.self in
    let i = subst (λ (p : Position). IsPosition j.records p) c.here-2.ensures.here c.here-2.ensures.position in
    let up = subst (λ (p : Position). IsUpTo p j.last) c.here-2.ensures.here c.here-2.ensures.early in
    let l = subst (λ (p : Position). IsPosition k.records p) c.last.ensures.last c.last.ensures.is.position in
    halts_nowhere k h (marks c.args.mark) (told_by marks all) c.as_slice.result.now same there j c.in-Nowhere.ensures.same i up l c.in-Nowhere.ensures.unleft c.in-Nowhere.ensures.halted (c.in-Nowhere.ensures.nowhere refl)
