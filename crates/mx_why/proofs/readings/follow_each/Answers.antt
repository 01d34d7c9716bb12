use Rattle.std.proofs.Common.{◌<◌, ◌∙◌, ap, sym, arith, length, slice_set}
use Rattle.std.proofs.lemmas.List.Edits.{map_over_more}
use Rattle.mx_machine.specs.Machine.{world_of}
use Rattle.mx_why.specs.Readings.{followed_call}
use Rattle.mx_why.proofs.readings.follow_each.Goals as goal

pub loop-index-preserved : goal.loop-index-preserved
loop-index-preserved c =
    let f = followed_call (world_of c.args.machine.now) c.args.actor c.args.event in
    let lt : c.loop-index.index < length c.args.calls.now = omega (arith, c.loop-index-test.true, c.loop-index.auto.calls) in
    ap (λ p. slice_set c.loop-index.calls c.loop-index.index p) (c.in_ok-follow_call.ensures ∙ ap f (sym c.index-calls-index.is))
    ∙ map_over_more f c.args.calls.now c.loop-index.calls c.loop-index.index c.index-calls-index.result lt c.loop-index.invariant c.index-calls-index.is
