use Rattle.std.proofs.Common.{◌≡◌, ◌∙◌, ◌<◌, ◌≤◌, false, All, get_or, length, take, subst, sym, arith}
use Rattle.std.proofs.lemmas.List.{take_all, take_more}
use Rattle.std.proofs.lemmas.List.Elements.{All-push}
use Rattle.mx_walk.specs.Running.{with_out}
use Rattle.mx_walk.proofs.Many.{none_marks}
use Rattle.mx_walk.proofs.several.SeveralMark.is_of_memory.Goals as goal

pub loop-i-preserved : goal.loop-i-preserved
loop-i-preserved g c = λ p o slot same.
    let ms = c.as_slice-marks.result.now in
    let i = c.loop-i.i in
    let d = c.index-marks-i.result in
    let inside : i < length ms = let b = c.loop-i-test.true in omega (arith, b) in
    subst (λ xs. All (λ m. (g.M.Mark.marks_step m p o ≡ false) × (g.M.Mark.HasSeenHeld m p → g.M.Mark.HasSeenHeld m (with_out p o))) xs) (sym (take_more ms i d inside))
    (All-push (λ m. (g.M.Mark.marks_step m p o ≡ false) × (g.M.Mark.HasSeenHeld m p → g.M.Mark.HasSeenHeld m (with_out p o))) (take i ms) (get_or ms i d) (c.loop-i.invariant p o slot same)
    (subst (λ m. (g.M.Mark.marks_step m p o ≡ false) × (g.M.Mark.HasSeenHeld m p → g.M.Mark.HasSeenHeld m (with_out p o))) c.index-marks-i.is (c.is_of_memory.ensures c.if-not-is_of_memory.false p o slot same)))

pub returns : goal.returns
returns g c = λ _ p o slot same.
    let ms = c.as_slice-marks.result.now in
    let i = c.loop-i.i in
    let ge : length ms ≤ i = let b = c.loop-i-test.false in omega (arith, b) in
    none_marks g.M.Mark.marks_step g.M.Mark.HasSeenHeld p o c.args.self.now.marks.items
    (subst (λ xs. All (λ m. (g.M.Mark.marks_step m p o ≡ false) × (g.M.Mark.HasSeenHeld m p → g.M.Mark.HasSeenHeld m (with_out p o))) xs) (take_all i ms ge ∙ c.as_slice-marks.ensures.value) (c.loop-i.invariant p o slot same))
