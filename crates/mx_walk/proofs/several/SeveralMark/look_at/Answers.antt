use Rattle.std.proofs.Common.{◌∙◌, ◌<◌, sym, subst, All, length, arith}
use Rattle.std.proofs.lemmas.List.{take_more_set}
use Rattle.std.proofs.lemmas.List.Elements.{All-push}
use Rattle.std.proofs.Math.Seq.{map-set_same}
use Rattle.std.proofs.Common.{take}
use Rattle.mx_machine.specs.World.{HeldProcess}
use Rattle.mx_walk.proofs.Many.{all_done}
use Rattle.mx_walk.proofs.several.SeveralMark.look_at.Goals as goal

pub loop-i-preserved : goal.loop-i-preserved
loop-i-preserved g c =
    let ms = c.loop-i.marks in
    let i = c.loop-i.i in
    let inside : i < length ms = let a = c.loop-i.auto.marks in let b = c.loop-i-test.true in omega (arith, a, b) in
    let p : HeldProcess = record { slot = c.args.slot; out = c.args.out.now } in
    record {
      seen = subst (λ xs. All (λ m. g.M.Mark.HasSeenHeld m p) xs) (sym (take_more_set ms i c.look_at.new.self inside)) (All-push (λ m. g.M.Mark.HasSeenHeld m p) (take i ms) c.look_at.new.self c.loop-i.invariant.seen c.look_at.ensures.seen);
      same = map-set_same g.M.Mark.marks ms i c.look_at.new.self c.index-marks-i.result c.look_at.ensures.same ∙ c.loop-i.invariant.same;
      steps = map-set_same g.M.Mark.marks_step ms i c.look_at.new.self c.index-marks-i.result c.look_at.ensures.steps ∙ c.loop-i.invariant.steps;
    }

pub returns-clause-seen : goal.returns-clause-seen
returns-clause-seen g c =
    let ms = c.loop-i.marks in
    let p : HeldProcess = record { slot = c.args.slot; out = c.args.out.now } in
    all_done (λ m. g.M.Mark.HasSeenHeld m p) ms _ c.loop-i.i c.args.self.now.marks.len
    (let a = c.loop-i.auto.marks in let b = c.as_mut_slice-marks.ensures.len in omega (arith, a, b))
    (let a = c.loop-i.auto.marks in let b = c.loop-i-test.false in omega (arith, a, b))
    c.loop-i.invariant.seen
