use Rattle.std.proofs.Common.{◌≡◌, ◌∙◌, ◌+◌, ℕ, length, map, ap, arith}
use Rattle.std.specs.List.{range_with_len, sum_by}
use Rattle.std.proofs.lemmas.List.FromFn.{sum_by-map-range_with_len_more}
use Rattle.mx_machine.specs.Machine.{world_of}
use Rattle.mx_machine.specs.History.{BootAndHistory, replay}
use Rattle.mx_machine.specs.Proc.TableState.{process_at}
use Rattle.mx_walk.specs.Sizes.{image_at, image_bytes, slot_bytes}
use Rattle.mx_walk.proofs.checkpoints.checkpoint_bytes.Goals as goal

pub loop-slot-preserved : goal.loop-slot-preserved
unfolding world_of replay
loop-slot-preserved c =
    let w = world_of c.args.machine.now in
    let n = c.loop-slot.slot in
    let inv = c.loop-slot.invariant in
    let value = inv.value in
    let few = inv.few in
    let small = c.image_bytes.ensures.few in
    let table : c.table-table.result.now ≡ w.table = c.table-table.ensures ∙ ap (λ (k : BootAndHistory). (replay k).table) c.kernel.ensures in
    let here : c.image_bytes.result ≡ image_bytes (image_at w n) = c.image_bytes.ensures.value ∙ ap (λ p. image_bytes p.image) (c.process.ensures.value ∙ ap (λ t. process_at t n) table) in
    let more = sum_by-map-range_with_len_more slot_bytes (image_at w) 0 n n (omega arith) in
    record {
      value = omega (arith, value, here, more);
      few = omega (arith, few, small);
    }

pub returns-clause-value : goal.returns-clause-value
unfolding world_of replay
returns-clause-value c =
    let w = world_of c.args.machine.now in
    let inv = c.loop-slot.invariant in
    let table : c.table-table.result.now ≡ w.table = c.table-table.ensures ∙ ap (λ (k : BootAndHistory). (replay k).table) c.kernel.ensures in
    let long = c.slot_count-slot-end.ensures.value ∙ ap (λ t. length t.slots) table in
    let end = c.loop-slot.auto.slot-end in
    let all : c.loop-slot.slot ≡ length w.table.slots = omega (arith, long, end, c.loop-slot-test.false) in
    inv.value ∙ ap (λ (n : ℕ). 65536 + sum_by slot_bytes (map (image_at w) (range_with_len 0 n))) all
