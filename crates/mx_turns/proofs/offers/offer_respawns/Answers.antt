use Rattle.std.proofs.Common.{◌∙◌, ◌+◌, drop, true, false, arith}
use Rattle.mx_machine.specs.declared.events.Event.TheVariants.{Respawn}
use Rattle.mx_turns.specs.Turns.{respawns}
use Rattle.mx_turns.proofs.OfferLemmas.{respawns_more, respawns_part}
use Rattle.mx_turns.proofs.MadeLemmas.{full_done, next_done}
use Rattle.mx_turns.proofs.offers.offer_respawns.Goals as goal

pub loop-slot-preserved : goal.loop-slot-preserved
loop-slot-preserved c =
    let slot = c.loop-slot.slot in
    let other = c.args.other in
    record {
      offered = next_done c.args.machine.now c.loop-slot.machine c.offer_respawn.new.machine (respawns other slot) (other, Respawn slot) (respawns other (slot + 1)) c.offer_respawn.result false (respawns_more other slot) c.loop-slot.invariant.offered c.offer_respawn.ensures.offered c.if-offer_respawn.false;
      as_many = c.offer_respawn.ensures.actors ∙ c.loop-slot.invariant.as_many;
    }

pub returns-then-offer_respawn-clause-offered : goal.returns-then-offer_respawn-clause-offered
returns-then-offer_respawn-clause-offered c =
    let slot = c.loop-slot.slot in
    let other = c.args.other in
    full_done c.args.machine.now c.offer_respawn.new.machine (respawns other (slot + 1)) (drop (slot + 1) (respawns other c.args.slots)) (respawns other c.args.slots) (respawns_part other (slot + 1) c.args.slots (omega (arith, c.loop-slot-test.true)))
    (next_done c.args.machine.now c.loop-slot.machine c.offer_respawn.new.machine (respawns other slot) (other, Respawn slot) (respawns other (slot + 1)) c.offer_respawn.result true (respawns_more other slot) c.loop-slot.invariant.offered c.offer_respawn.ensures.offered c.if-offer_respawn.true)
