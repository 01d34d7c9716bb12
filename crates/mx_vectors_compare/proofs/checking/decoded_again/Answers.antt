use Rattle.std.proofs.Common.{length, Some, ap}
use Rattle.mx_insn.specs.declared.insn.Insn.{Insn}
use Rattle.mx_vectors_compare.proofs.Again.{chosen_first, same_insn, not_err}
use Rattle.mx_vectors_compare.proofs.checking.decoded_again.Goals as goal

pub returns-in-Ok-decode : goal.returns-in-Ok-decode
returns-in-Ok-decode c h =
    let d = (c.decode.ensures.ok c.args.insn.now (length c.in-Ok.bytes.items)).1 (chosen_first c.args.insn.now c.args.wide c.in-Ok.bytes.items c.as_slice.result.now c.in-Ok.ensures.chosen c.as_slice.ensures.value) in
    ap (λ (z : Insn). Some z) (same_insn c.decode.result c.in-Ok-decode.again c.args.insn.now c.in-Ok-decode.field-0-1 (length c.in-Ok.bytes.items) c.in-Ok-decode.is d)

pub returns-in-Err : goal.returns-in-Err
returns-in-Err c h =
    let d = (c.decode.ensures.ok c.args.insn.now (length c.in-Ok.bytes.items)).1 (chosen_first c.args.insn.now c.args.wide c.in-Ok.bytes.items c.as_slice.result.now c.in-Ok.ensures.chosen c.as_slice.ensures.value) in
    absurd (not_err c.decode.result c.in-Err.field-0 c.args.insn.now (length c.in-Ok.bytes.items) c.in-Err.is d)
