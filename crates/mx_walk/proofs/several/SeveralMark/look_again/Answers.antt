use Rattle.std.proofs.Common.{◌≡◌, ◌∙◌, ◌<◌, ◌≤◌, ℕ, Bool, true, List, ap, sym, subst, All, get_or, length, length-set, map, slice_set, take, arith}
use Rattle.std.specs.List.{list_any}
use Rattle.std.proofs.lemmas.List.{take_all, take_more_set, with_items_is}
use Rattle.std.proofs.lemmas.List.Elements.{All-get_or, All-push}
use Rattle.std.proofs.Math.Seq.{map-set_same}
use Rattle.mx_machine.specs.declared.events.Event.{Event}
use Rattle.mx_machine.specs.declared.holding.Out.{Out}
use Rattle.mx_machine.specs.World.{HeldProcess, World}
use Rattle.mx_walk.specs.Several.{any_marks}
use Rattle.mx_walk.proofs.Many.{all_done, no_step_more, same_at, same_rest, step_at}
use Rattle.mx_walk.proofs.several.SeveralMark.look_again.Goals as goal

pub returns-then-look_again-clause-met : goal.returns-then-look_again-clause-met
returns-then-look_again-clause-met g c = λ p all slot.
    let ms = c.as_mut_slice-marks.result.now in
    let i = c.loop-i.i in
    let d = c.index-marks-i.result in
    let inside : i < length ms = let b = c.loop-i-test.true in omega (arith, b) in
    let now_inside : i < length c.loop-i.marks = let a = c.loop-i.auto.marks in let b = c.loop-i-test.true in omega (arith, a, b) in
    let is : get_or c.loop-i.marks i d ≡ get_or ms i d = same_at c.loop-i.marks ms i d now_inside inside c.loop-i.invariant.rest in
    let all_seen : All (λ m. g.M.Mark.HasSeenHeld m p) ms = subst (λ xs. All (λ m. g.M.Mark.HasSeenHeld m p) xs) (sym c.as_mut_slice-marks.ensures.value) all in
    let seen : g.M.Mark.HasSeenHeld (get_or c.loop-i.marks i d) p = subst (λ m. g.M.Mark.HasSeenHeld m p) (sym is) (All-get_or (λ m. g.M.Mark.HasSeenHeld m p) ms i d inside all_seen) in
    let marked : g.M.Mark.marks_step (get_or ms i d) p c.args.out.now ≡ true =
    ap (λ m. g.M.Mark.marks_step m p c.args.out.now) (sym is) ∙ sym (c.look_again.ensures.met p seen slot) ∙ c.if-look_again.true in
    sym (ap (λ xs. list_any (λ (h : HeldProcess → Out → Bool). h p c.args.out.now) (map g.M.Mark.marks_step xs)) (sym c.as_mut_slice-marks.ensures.value) ∙ step_at g.M.Mark.marks_step p c.args.out.now ms i d inside marked)

pub returns-then-look_again-clause-same : goal.returns-then-look_again-clause-same
returns-then-look_again-clause-same g c =
    let ms = c.loop-i.marks in
    let i = c.loop-i.i in
    let new = slice_set ms i c.look_again.new.self in
    let long : length new ≡ c.args.self.now.marks.len =
    let a = length-set ms i c.look_again.new.self in let b = c.loop-i.auto.marks in let e = c.as_mut_slice-marks.ensures.len in omega (arith, a, b, e) in
    ap (λ (hs : List (World → ℕ × Event → World → Bool)). let h : World → ℕ × Event → World → Bool = λ w x u. any_marks hs w x u in h)
    (ap (λ xs. map g.M.Mark.marks xs) (with_items_is c.args.self.now.marks new long)
    ∙ map-set_same g.M.Mark.marks ms i c.look_again.new.self c.index-marks-i.result c.look_again.ensures.same
    ∙ c.loop-i.invariant.same
    ∙ ap (λ xs. map g.M.Mark.marks xs) c.as_mut_slice-marks.ensures.value)

pub returns-then-look_again-clause-steps : goal.returns-then-look_again-clause-steps
returns-then-look_again-clause-steps g c =
    let ms = c.loop-i.marks in
    let i = c.loop-i.i in
    let new = slice_set ms i c.look_again.new.self in
    let long : length new ≡ c.args.self.now.marks.len =
    let a = length-set ms i c.look_again.new.self in let b = c.loop-i.auto.marks in let e = c.as_mut_slice-marks.ensures.len in omega (arith, a, b, e) in
    ap (λ (hs : List (HeldProcess → Out → Bool)). let h : HeldProcess → Out → Bool = λ l o. list_any (λ (f : HeldProcess → Out → Bool). f l o) hs in h)
    (ap (λ xs. map g.M.Mark.marks_step xs) (with_items_is c.args.self.now.marks new long)
    ∙ map-set_same g.M.Mark.marks_step ms i c.look_again.new.self c.index-marks-i.result c.look_again.ensures.steps
    ∙ c.loop-i.invariant.steps
    ∙ ap (λ xs. map g.M.Mark.marks_step xs) c.as_mut_slice-marks.ensures.value)

pub loop-i-preserved : goal.loop-i-preserved
loop-i-preserved g c =
    let now = c.loop-i.marks in
    let ms = c.as_mut_slice-marks.result.now in
    let i = c.loop-i.i in
    let d = c.index-marks-i.result in
    let new = c.look_again.new.self in
    let here : HeldProcess = record { slot = c.args.slot; out = c.args.out.now } in
    let inside : i < length ms = let b = c.loop-i-test.true in omega (arith, b) in
    let now_inside : i < length now = let a = c.loop-i.auto.marks in let b = c.loop-i-test.true in omega (arith, a, b) in
    let is : get_or now i d ≡ get_or ms i d = same_at now ms i d now_inside inside c.loop-i.invariant.rest in
    record {
      seen = subst (λ xs. All (λ m. g.M.Mark.HasSeenHeld m here) xs) (sym (take_more_set now i new now_inside))
          (All-push (λ m. g.M.Mark.HasSeenHeld m here) (take i now) new c.loop-i.invariant.seen (c.look_again.ensures.seen c.if-look_again.false));
      rest = same_rest now ms i d new now_inside inside c.loop-i.invariant.rest;
      same = map-set_same g.M.Mark.marks now i new d c.look_again.ensures.same ∙ c.loop-i.invariant.same;
      steps = map-set_same g.M.Mark.marks_step now i new d c.look_again.ensures.steps ∙ c.loop-i.invariant.steps;
      unmet = λ p all slot.
          let seen : g.M.Mark.HasSeenHeld (get_or now i d) p = subst (λ m. g.M.Mark.HasSeenHeld m p) (sym is) (All-get_or (λ m. g.M.Mark.HasSeenHeld m p) ms i d inside all) in
          no_step_more g.M.Mark.marks_step p c.args.out.now ms i d inside (c.loop-i.invariant.unmet p all slot)
          (ap (λ m. g.M.Mark.marks_step m p c.args.out.now) (sym is) ∙ sym (c.look_again.ensures.met p seen slot) ∙ c.if-look_again.false);
    }

pub returns-clause-met : goal.returns-clause-met
returns-clause-met g c = λ p all slot.
    let ms = c.as_mut_slice-marks.result.now in
    let i = c.loop-i.i in
    let ge : length ms ≤ i = let b = c.loop-i-test.false in omega (arith, b) in
    let all_seen : All (λ m. g.M.Mark.HasSeenHeld m p) ms = subst (λ xs. All (λ m. g.M.Mark.HasSeenHeld m p) xs) (sym c.as_mut_slice-marks.ensures.value) all in
    sym (ap (λ xs. list_any (λ (h : HeldProcess → Out → Bool). h p c.args.out.now) (map g.M.Mark.marks_step xs)) (sym c.as_mut_slice-marks.ensures.value ∙ sym (take_all i ms ge)) ∙ c.loop-i.invariant.unmet p all_seen slot)

pub returns-clause-seen : goal.returns-clause-seen
returns-clause-seen g c = λ _.
    let ms = c.loop-i.marks in
    let p : HeldProcess = record { slot = c.args.slot; out = c.args.out.now } in
    all_done (λ m. g.M.Mark.HasSeenHeld m p) ms _ c.loop-i.i c.args.self.now.marks.len
    (let a = c.loop-i.auto.marks in let b = c.as_mut_slice-marks.ensures.len in omega (arith, a, b))
    (let a = c.loop-i.auto.marks in let b = c.loop-i-test.false in omega (arith, a, b))
    c.loop-i.invariant.seen
