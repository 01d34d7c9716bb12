use Rattle.std.proofs.Common.{◌<◌, ◌≢◌, ◌++◌, ◌∙◌, ap, arith, slice_set}
use Rattle.mx_mem.specs.Segment.{part}
use Rattle.mx_proc.specs.declared.process.Process.{Process}
use Rattle.mx_proc.specs.Serving.{process_after_copy}
use Rattle.mx_proc.proofs.ServingLemmas.{changed_later, changed_earlier}
use Rattle.mx_proc.proofs.table.serving.copy_between.Goals as goal

pub returns-then-from-to-2 : goal.returns-then-from-to-2
returns-then-from-to-2 c =
    let low = c.split_at_mut-low.result.0.now in
    let high = c.split_at_mut-low.result.1.now in
    let e = c.split_at_mut-low.ensures in
    let f = λ (p : Process) (q : Process). process_after_copy q c.args.target.offset (part p.image.memory c.args.source.offset c.args.count) in
    ap (λ x. low ++ slice_set high 0 x) c.copy_across.ensures
    ∙ changed_later f c.args.processes.now low high c.args.source.slot c.args.target.slot _ _ e.value e.front_len c.if-from-to-2.true c.requires.to

pub returns-else-from-to-2 : goal.returns-else-from-to-2
returns-else-from-to-2 c =
    let low = c.split_at_mut-low-else-from-to-2.result.0.now in
    let high = c.split_at_mut-low-else-from-to-2.result.1.now in
    let e = c.split_at_mut-low-else-from-to-2.ensures in
    let f = λ (p : Process) (q : Process). process_after_copy q c.args.target.offset (part p.image.memory c.args.source.offset c.args.count) in
    let apart : c.args.source.slot ≢ c.args.target.slot = c.if-from-to.false in
    let less : c.args.target.slot < c.args.source.slot = omega (arith, c.if-from-to-2.false) in
    ap (λ x. slice_set low c.args.target.slot x ++ high) c.copy_across-else-from-to-2.ensures
    ∙ changed_earlier f c.args.processes.now low high c.args.source.slot c.args.target.slot _ _ e.value e.front_len less c.requires.from
