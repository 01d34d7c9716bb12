use Rattle.std.proofs.Common.{◌∙◌, ◌+◌, arith, rules, sym, ap, subst, length, take, Bool, List}
use Rattle.std.proofs.lemmas.List.{length-set}
use Rattle.mx_debug.proofs.Marking.{AreMarked, marked_more, marked_same}
use Rattle.mx_debug.proofs.points.Debugger.marks.Goals as goal
use Rattle.mx_debug.proofs.points.Debugger.marks.Goals.{then-point-slot, else-point-slot}

pub loop-point-preserved : goal.loop-point-preserved
loop-point-preserved c =
    let points = c.as_slice-point-items.result.now in
    let i = c.loop-point.point-index in
    let before = c.loop-point.invariant in
    elim c.if-point-slot.branch [
      | then-point-slot w ↦ record {
        inside = ap length w.marks-is ∙ length-set c.loop-point.marks _ _ ∙ before.inside;
        marked = subst (λ (m : List Bool). AreMarked (take (i + 1) points) c.args.slot m) (sym w.marks-is) (marked_more points i _ c.args.slot c.loop-point.marks (search rules) (omega (arith, before.inside)) before.marked);
      }
      | else-point-slot w ↦ record {
        inside = ap length w.marks-is ∙ before.inside;
        marked = subst (λ (m : List Bool). AreMarked (take (i + 1) points) c.args.slot m) (sym w.marks-is) (marked_same points i _ c.args.slot c.loop-point.marks (search rules) w.if-point-slot.false before.marked);
      }
    ]
