use Rattle.std.proofs.Common.{◌∙◌, ℕ, Bool, subst, sym}
use Rattle.mx_machine.specs.declared.events.Event.{Event}
use Rattle.mx_machine.specs.World.{World}
use Rattle.mx_walk.specs.declared.positions.Position.{Position}
use Rattle.mx_walk.specs.Positions.{IsBefore}
use Rattle.mx_walk.proofs.Along.{same_position, up_trans}
use Rattle.mx_walk.proofs.Next.{above_to}
use Rattle.mx_walk.proofs.Passing.{not_one}
use Rattle.mx_walk.proofs.Shown.{shown_on}
use Rattle.mx_walk.proofs.Unleft.{come_there, fewer_to, found_unleft, found_up, halts_after, halts_nowhere, passed_early, passed_there, passed_unleft, passed_up}
use Rattle.mx_walk.proofs.halting.seek_halt.Goals as goal

pub returns-in-Found-clause-halted : goal.returns-in-Found-clause-halted
returns-in-Found-clause-halted g c =
    let f : World → ℕ × Event → World → Bool = g.M.Mark.marks c.args.mark.now in
    let ps = c.args.places.now in
    let boot = c.args.machine.now.kernel.boot in
    let rs = c.args.records.now in
    let from = c.args.way.from in
    let to = c.args.way.to in
    let p = c.loop-to.at in
    let inv = c.loop-to.invariant in
    let m = c.loop-to.machine in
    let lt = above_to p to inv.early (not_one p to c.loop-to-test.ensures) in
    let end = c.end_of_stretch-end in
    let l : World → ℕ × Event → World → Bool = g.M.Mark.marks c.loop-to.mark in
    halts_after f ps boot rs from to p c.requires.to inv.passed inv.unleft m inv.there inv.later lt c.requires.coming c.is_left_next.result c.is_left_next.ensures c.if-is_left_next.false end.result end.ensures.position end.ensures.early end.ensures.one l inv.mark c.in-Found.next c.seek.new.machine c.in-Found.ensures.there c.in-Found.ensures.sought

pub returns-in-Found-clause-unleft : goal.returns-in-Found-clause-unleft
returns-in-Found-clause-unleft g c =
    let f : World → ℕ × Event → World → Bool = g.M.Mark.marks c.args.mark.now in
    let ps = c.args.places.now in
    let boot = c.args.machine.now.kernel.boot in
    let rs = c.args.records.now in
    let from = c.args.way.from in
    let to = c.args.way.to in
    let p = c.loop-to.at in
    let inv = c.loop-to.invariant in
    let m = c.loop-to.machine in
    let lt = above_to p to inv.early (not_one p to c.loop-to-test.ensures) in
    let end = c.end_of_stretch-end in
    let l : World → ℕ × Event → World → Bool = g.M.Mark.marks c.loop-to.mark in
    found_unleft f ps boot rs from to p c.requires.to inv.passed inv.unleft m inv.there inv.later lt c.requires.coming c.is_left_next.result c.is_left_next.ensures c.if-is_left_next.false end.result end.ensures.position end.ensures.early end.ensures.one l inv.mark c.in-Found.next c.seek.new.machine c.in-Found.ensures.there c.in-Found.ensures.sought

pub returns-in-Found-clause-shown : goal.returns-in-Found-clause-shown
returns-in-Found-clause-shown g c =
    let f : World → ℕ × Event → World → Bool = g.M.Mark.marks c.args.mark.now in
    let ps = c.args.places.now in
    let boot = c.args.machine.now.kernel.boot in
    let rs = c.args.records.now in
    let from = c.args.way.from in
    let to = c.args.way.to in
    let p = c.loop-to.at in
    let inv = c.loop-to.invariant in
    let m = c.loop-to.machine in
    let lt = above_to p to inv.early (not_one p to c.loop-to-test.ensures) in
    let end = c.end_of_stretch-end in
    let l : World → ℕ × Event → World → Bool = g.M.Mark.marks c.loop-to.mark in
    shown_on rs from p c.in-Found.next _ _ _ inv.later (found_up f ps boot rs from to p c.requires.to inv.passed inv.unleft m inv.there inv.later lt c.requires.coming c.is_left_next.result c.is_left_next.ensures c.if-is_left_next.false end.result end.ensures.position end.ensures.early end.ensures.one l inv.mark c.in-Found.next c.seek.new.machine c.in-Found.ensures.there c.in-Found.ensures.sought) inv.shown c.in-Found.ensures.shown

pub returns-then-ne-clause-halted : goal.returns-then-ne-clause-halted
returns-then-ne-clause-halted g c =
    let f : World → ℕ × Event → World → Bool = g.M.Mark.marks c.args.mark.now in
    let ps = c.args.places.now in
    let boot = c.args.machine.now.kernel.boot in
    let rs = c.args.records.now in
    let from = c.args.way.from in
    let to = c.args.way.to in
    let p = c.loop-to.at in
    let inv = c.loop-to.invariant in
    let m = c.loop-to.machine in
    let lt = above_to p to inv.early (not_one p to c.loop-to-test.ensures) in
    let end = c.end_of_stretch-end in
    let l : World → ℕ × Event → World → Bool = g.M.Mark.marks c.loop-to.mark in
    halts_nowhere f ps boot rs from to p c.requires.to inv.passed inv.unleft m inv.there inv.later lt c.requires.coming c.is_left_next.result c.is_left_next.ensures c.if-is_left_next.false end.result end.ensures.position end.ensures.early end.ensures.one l inv.mark c.in-Nowhere.next c.seek.new.machine c.in-Nowhere.ensures.there c.in-Nowhere.ensures.sought (not_one c.in-Nowhere.next end.result c.if-ne.ensures)

pub returns-then-ne-clause-unleft : goal.returns-then-ne-clause-unleft
returns-then-ne-clause-unleft g c =
    let f : World → ℕ × Event → World → Bool = g.M.Mark.marks c.args.mark.now in
    let ps = c.args.places.now in
    let boot = c.args.machine.now.kernel.boot in
    let rs = c.args.records.now in
    let from = c.args.way.from in
    let to = c.args.way.to in
    let p = c.loop-to.at in
    let inv = c.loop-to.invariant in
    let m = c.loop-to.machine in
    let lt = above_to p to inv.early (not_one p to c.loop-to-test.ensures) in
    let end = c.end_of_stretch-end in
    let l : World → ℕ × Event → World → Bool = g.M.Mark.marks c.loop-to.mark in
    passed_unleft f ps boot rs from to p c.requires.to inv.passed inv.unleft m inv.there inv.later lt c.requires.coming c.is_left_next.result c.is_left_next.ensures c.if-is_left_next.false end.result end.ensures.position end.ensures.early end.ensures.one l inv.mark c.in-Nowhere.next c.seek.new.machine c.in-Nowhere.ensures.there c.in-Nowhere.ensures.sought

pub returns-then-ne-clause-shown : goal.returns-then-ne-clause-shown
returns-then-ne-clause-shown g c =
    let f : World → ℕ × Event → World → Bool = g.M.Mark.marks c.args.mark.now in
    let ps = c.args.places.now in
    let boot = c.args.machine.now.kernel.boot in
    let rs = c.args.records.now in
    let from = c.args.way.from in
    let to = c.args.way.to in
    let p = c.loop-to.at in
    let inv = c.loop-to.invariant in
    let m = c.loop-to.machine in
    let lt = above_to p to inv.early (not_one p to c.loop-to-test.ensures) in
    let end = c.end_of_stretch-end in
    let l : World → ℕ × Event → World → Bool = g.M.Mark.marks c.loop-to.mark in
    shown_on rs from p c.in-Nowhere.next _ _ _ inv.later (passed_up f ps boot rs from to p c.requires.to inv.passed inv.unleft m inv.there inv.later lt c.requires.coming c.is_left_next.result c.is_left_next.ensures c.if-is_left_next.false end.result end.ensures.position end.ensures.early end.ensures.one l inv.mark c.in-Nowhere.next c.seek.new.machine c.in-Nowhere.ensures.there c.in-Nowhere.ensures.sought) inv.shown c.in-Nowhere.ensures.shown

pub loop-to-smaller : goal.loop-to-smaller
loop-to-smaller g c =
    let f : World → ℕ × Event → World → Bool = g.M.Mark.marks c.args.mark.now in
    let ps = c.args.places.now in
    let boot = c.args.machine.now.kernel.boot in
    let rs = c.args.records.now in
    let from = c.args.way.from in
    let to = c.args.way.to in
    let p = c.loop-to.at in
    let inv = c.loop-to.invariant in
    let m = c.loop-to.machine in
    let lt = above_to p to inv.early (not_one p to c.loop-to-test.ensures) in
    let end = c.end_of_stretch-end in
    let l : World → ℕ × Event → World → Bool = g.M.Mark.marks c.loop-to.mark in
    let same = same_position c.in-Nowhere.next end.result c.if-ne.ensures in
    fewer_to rs p c.in-Nowhere.next to inv.there.position c.in-Nowhere.ensures.there.position c.requires.to
    (subst (λ (q : Position). IsBefore p q) (sym same) end.ensures.later)
    (passed_early f ps boot rs from to p c.requires.to inv.passed inv.unleft m inv.there inv.later lt c.requires.coming c.is_left_next.result c.is_left_next.ensures c.if-is_left_next.false end.result end.ensures.position end.ensures.early end.ensures.one l inv.mark c.in-Nowhere.next c.seek.new.machine c.in-Nowhere.ensures.there c.in-Nowhere.ensures.sought)

pub loop-to-preserved : goal.loop-to-preserved
loop-to-preserved g c =
    let f : World → ℕ × Event → World → Bool = g.M.Mark.marks c.args.mark.now in
    let ps = c.args.places.now in
    let boot = c.args.machine.now.kernel.boot in
    let rs = c.args.records.now in
    let from = c.args.way.from in
    let to = c.args.way.to in
    let p = c.loop-to.at in
    let inv = c.loop-to.invariant in
    let m = c.loop-to.machine in
    let lt = above_to p to inv.early (not_one p to c.loop-to-test.ensures) in
    let end = c.end_of_stretch-end in
    let l : World → ℕ × Event → World → Bool = g.M.Mark.marks c.loop-to.mark in
    record {
      there = come_there f ps boot rs from to p c.requires.to inv.passed inv.unleft m inv.there inv.later lt c.requires.coming c.is_left_next.result c.is_left_next.ensures c.if-is_left_next.false end.result end.ensures.position end.ensures.early end.ensures.one l inv.mark c.in-Nowhere.next c.seek.new.machine c.in-Nowhere.ensures.there;
      early = passed_early f ps boot rs from to p c.requires.to inv.passed inv.unleft m inv.there inv.later lt c.requires.coming c.is_left_next.result c.is_left_next.ensures c.if-is_left_next.false end.result end.ensures.position end.ensures.early end.ensures.one l inv.mark c.in-Nowhere.next c.seek.new.machine c.in-Nowhere.ensures.there c.in-Nowhere.ensures.sought;
      later = up_trans from p c.in-Nowhere.next inv.later (passed_up f ps boot rs from to p c.requires.to inv.passed inv.unleft m inv.there inv.later lt c.requires.coming c.is_left_next.result c.is_left_next.ensures c.if-is_left_next.false end.result end.ensures.position end.ensures.early end.ensures.one l inv.mark c.in-Nowhere.next c.seek.new.machine c.in-Nowhere.ensures.there c.in-Nowhere.ensures.sought);
      passed = passed_there f ps boot rs from to p c.requires.to inv.passed inv.unleft m inv.there inv.later lt c.requires.coming c.is_left_next.result c.is_left_next.ensures c.if-is_left_next.false end.result end.ensures.position end.ensures.early end.ensures.one l inv.mark c.in-Nowhere.next c.seek.new.machine c.in-Nowhere.ensures.there c.in-Nowhere.ensures.sought;
      unleft = passed_unleft f ps boot rs from to p c.requires.to inv.passed inv.unleft m inv.there inv.later lt c.requires.coming c.is_left_next.result c.is_left_next.ensures c.if-is_left_next.false end.result end.ensures.position end.ensures.early end.ensures.one l inv.mark c.in-Nowhere.next c.seek.new.machine c.in-Nowhere.ensures.there c.in-Nowhere.ensures.sought;
      mark = c.seek.ensures.mark ∙ inv.mark;
      as_many = c.seek.ensures.actors ∙ inv.as_many;
      shown = shown_on rs from p c.in-Nowhere.next _ _ _ inv.later (passed_up f ps boot rs from to p c.requires.to inv.passed inv.unleft m inv.there inv.later lt c.requires.coming c.is_left_next.result c.is_left_next.ensures c.if-is_left_next.false end.result end.ensures.position end.ensures.early end.ensures.one l inv.mark c.in-Nowhere.next c.seek.new.machine c.in-Nowhere.ensures.there c.in-Nowhere.ensures.sought) inv.shown c.in-Nowhere.ensures.shown;
    }
