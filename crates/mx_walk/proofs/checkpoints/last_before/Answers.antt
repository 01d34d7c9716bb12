use Rattle.std.proofs.Common.{◌∙◌, sym}
use Rattle.mx_walk.proofs.ShownWalks.{found_before, found_here}
use Rattle.mx_walk.proofs.checkpoints.last_before.Goals.{then-is_up_to, else-is_up_to}
use Rattle.mx_walk.proofs.checkpoints.last_before.Goals as goal

pub loop-index-preserved : goal.loop-index-preserved
loop-index-preserved c =
    let cs = c.args.checkpoints.now in
    let i = c.loop-index.index in
    let d = c.index-checkpoints-index.result in
    elim c.if-is_up_to.branch [
      | then-is_up_to w ↦ found_here cs c.args.to i c.loop-index-test.true d c.if-is_up_to.last w.last-is (sym c.is_up_to.ensures.value ∙ w.if-is_up_to.true) (c.is_up_to.ensures.yes w.if-is_up_to.true)
      | else-is_up_to w ↦ found_before cs c.args.to i c.loop-index-test.true d c.loop-index.last c.if-is_up_to.last w.last-is (sym c.is_up_to.ensures.value ∙ w.if-is_up_to.false) c.loop-index.invariant
    ]
