use Rattle.std.proofs.Common.{◌<◌, ◌∙◌, ap, sym, arith, length, slice_set}
use Rattle.std.proofs.lemmas.List.Edits.{map_over_more}
use Rattle.mx_proc.specs.Serving.{without_bit_of}
use Rattle.mx_proc.proofs.table.serving.clear_bits.Goals as goal

pub loop-i-preserved : goal.loop-i-preserved
loop-i-preserved c =
    let lt : c.loop-i.i < length c.args.processes.now = omega (arith, c.loop-i-test.true, c.loop-i.auto.processes) in
    ap (λ p. slice_set c.loop-i.processes c.loop-i.i (without_bit_of c.args.slot p)) (sym c.index-processes-i.is)
    ∙ map_over_more (without_bit_of c.args.slot) c.args.processes.now c.loop-i.processes c.loop-i.i c.index-processes-i.result lt c.loop-i.invariant c.index-processes-i.is
