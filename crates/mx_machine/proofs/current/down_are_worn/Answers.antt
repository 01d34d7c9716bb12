use Rattle.std.proofs.Common.{◌<◌, ◌∙◌, length, ap, sym, arith}
use Rattle.mx_ipc.specs.Proc.declared.process.Process.{Process}
use Rattle.mx_ipc.specs.Proc.States.{is_down}
use Rattle.mx_machine.specs.Respawn.{is_worn}
use Rattle.mx_machine.proofs.CurrentLemmas.{one_worn, one_not_down, or_true}
use Rattle.mx_machine.proofs.current.down_are_worn.Goals.{else-is_down-via-then-is_down+else-not-is_worn, else-is_down-via-else-is_down}
use Rattle.mx_machine.proofs.current.down_are_worn.Goals as goal

pub loop-slot-preserved : goal.loop-slot-preserved
loop-slot-preserved c =
    let below : c.loop-slot.slot < length c.args.table.now.slots = omega (arith, c.loop-slot-test.true, c.slot_count-slot-end.ensures.value) in
    let served : c.loop-slot.slot < length c.args.services.now = omega (arith, below, c.requires) in
    elim c.else-is_down.branch [
      | else-is_down-via-then-is_down+else-not-is_worn w ↦
          one_worn c.args.table.now c.args.services.now c.loop-slot.slot w.index-services-slot.result c.loop-slot.invariant w.index-services-slot.is below served
          (or_true _ _ (ap (λ (p : Process). is_worn p w.index-services-slot.result) (sym c.process-process.ensures.value) ∙ sym w.is_worn.ensures ∙ w.if-not-is_worn.false))
      | else-is_down-via-else-is_down w ↦
          one_not_down c.args.table.now c.args.services.now c.loop-slot.slot c.loop-slot.invariant below served
          (ap (λ (p : Process). is_down p.state) (sym c.process-process.ensures.value) ∙ sym c.is_down.ensures ∙ w.if-is_down.false)
    ]
