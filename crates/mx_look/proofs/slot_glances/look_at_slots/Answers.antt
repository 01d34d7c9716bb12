use Rattle.std.proofs.Common.{◌≡◌, ◌∙◌, ◌<◌, length, None, arith}
use Rattle.std.proofs.Math.ListN.{length-set}
use Rattle.std.proofs.lemmas.List.FromFn.{fill_by_all}
use Rattle.mx_look.specs.Glances.{slot_glance, slot_glances}
use Rattle.mx_look.proofs.Filled.{filled_more}
use Rattle.mx_look.proofs.slot_glances.look_at_slots.Goals as goal

pub loop-slot-preserved : goal.loop-slot-preserved
loop-slot-preserved c =
    let inv = c.loop-slot.invariant in
    let within : c.loop-slot.slot < length c.loop-slot.slots = omega (arith, inv.long) in
    record {
      long = length-set c.loop-slot.slots c.loop-slot.slot c.look_at_slot.new.seen ∙ inv.long;
      filled = filled_more (slot_glance c.args.table.now c.args.services.now) c.loop-slot.slots c.loop-slot.slot c.look_at_slot.new.seen None within c.look_at_slot.ensures inv.filled;
    }

pub returns : goal.returns
unfolding slot_glances
returns c =
    let inv = c.loop-slot.invariant in
    let all : c.loop-slot.slot ≡ 32 = omega arith in
    fill_by_all (slot_glance c.args.table.now c.args.services.now) c.loop-slot.slots 32 None inv.long (λ k b. inv.filled k (omega arith))
