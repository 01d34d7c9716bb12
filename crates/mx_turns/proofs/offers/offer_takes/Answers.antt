use Rattle.std.proofs.Common.{◌∙◌, ◌+◌, drop, true, false, arith}
use Rattle.mx_machine.specs.declared.events.Event.TheVariants.{Take}
use Rattle.mx_turns.specs.Turns.{takes}
use Rattle.mx_turns.proofs.OfferLemmas.{takes_more, takes_part}
use Rattle.mx_turns.proofs.MadeLemmas.{full_done, next_done}
use Rattle.mx_turns.proofs.offers.offer_takes.Goals as goal

pub loop-cpu-preserved : goal.loop-cpu-preserved
loop-cpu-preserved c =
    let cpu = c.loop-cpu.cpu in
    record {
      offered = next_done c.args.machine.now c.loop-cpu.machine c.offer.new.machine (takes cpu) (cpu, Take) (takes (cpu + 1)) c.offer.result false (takes_more cpu) c.loop-cpu.invariant.offered c.offer.ensures.offered c.if-offer.false;
      as_many = c.offer.ensures.actors ∙ c.loop-cpu.invariant.as_many;
    }

pub returns-then-offer-clause-offered : goal.returns-then-offer-clause-offered
returns-then-offer-clause-offered c =
    let cpu = c.loop-cpu.cpu in
    full_done c.args.machine.now c.offer.new.machine (takes (cpu + 1)) (drop (cpu + 1) (takes c.args.cpus)) (takes c.args.cpus) (takes_part (cpu + 1) c.args.cpus (omega (arith, c.loop-cpu-test.true)))
    (next_done c.args.machine.now c.loop-cpu.machine c.offer.new.machine (takes cpu) (cpu, Take) (takes (cpu + 1)) c.offer.result true (takes_more cpu) c.loop-cpu.invariant.offered c.offer.ensures.offered c.if-offer.true)
