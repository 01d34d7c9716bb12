use Rattle.std.proofs.Common.{◌<◌, ◌∙◌, ap, arith, length, slice_set, None}
use Rattle.std.proofs.lemmas.List.Edits.{map_over_more}
use Rattle.mx_proc.specs.Serving.{owner_but}
use Rattle.mx_proc.proofs.ListLemmas.{get_or-any}
use Rattle.mx_proc.proofs.table.serving.give_up.Goals as goal

pub loop-i-preserved : goal.loop-i-preserved
loop-i-preserved c =
    let lt : c.loop-i.i < length c.args.owners.now = omega (arith, c.loop-i-test.true, c.loop-i.auto.owners) in
    ap (slice_set c.loop-i.owners c.loop-i.i) c.owner_but.ensures
    ∙ map_over_more (owner_but c.args.slot) c.args.owners.now c.loop-i.owners c.loop-i.i _ lt c.loop-i.invariant (get_or-any c.loop-i.owners c.loop-i.i None _ (omega (arith, lt, c.loop-i.auto.owners)))
