use Rattle.std.proofs.Common.{◌≡◌, ◌∙◌, ◌<◌, length, None, arith}
use Rattle.std.proofs.Math.ListN.{length-set}
use Rattle.std.proofs.lemmas.List.FromFn.{fill_by_all}
use Rattle.mx_look.proofs.Filled.{filled_more}
use Rattle.mx_look_page.specs.Shown.{slot_state, slot_states}
use Rattle.mx_look_page.proofs.shown.look_at_slots.Goals as goal

pub loop-slot-preserved : goal.loop-slot-preserved
loop-slot-preserved c =
    let inv = c.loop-slot.invariant in
    let within : c.loop-slot.slot < length c.loop-slot.slots = omega (arith, inv.long) in
    record {
      long = length-set c.loop-slot.slots c.loop-slot.slot c.slot_state.result ∙ inv.long;
      filled = filled_more (slot_state c.args.glance.now) c.loop-slot.slots c.loop-slot.slot c.slot_state.result None within c.slot_state.ensures inv.filled;
    }

pub returns : goal.returns
unfolding slot_states
returns c =
    let inv = c.loop-slot.invariant in
    let all : c.loop-slot.slot ≡ 32 = omega arith in
    fill_by_all (slot_state c.args.glance.now) c.loop-slot.slots 32 None inv.long (λ k b. inv.filled k (omega arith))
