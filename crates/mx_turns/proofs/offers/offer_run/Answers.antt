use Rattle.std.proofs.Common.{◌∙◌, false, refl, sym}
use Rattle.mx_machine.specs.declared.events.Event.TheVariants.{Back}
use Rattle.mx_machine.specs.Steps.{steps_of}
use Rattle.mx_machine.specs.Machine.{world_of}
use Rattle.mx_turns.specs.Turns.{most_steps, run_of}
use Rattle.mx_turns.proofs.MadeLemmas.{back_not_full, next_done}
use Rattle.mx_turns.proofs.offers.offer_run.Goals as goal

pub returns-clause-offered : goal.returns-clause-offered
returns-clause-offered c =
    let cpu = c.args.cpu in
    let n = c.offer_steps.new.machine in
    next_done c.args.machine.now n c.offer.new.machine (steps_of cpu most_steps) (cpu, Back) (run_of cpu) c.offer.result false refl c.offer_steps.ensures.offered c.offer.ensures.offered
    (sym c.offer.ensures.offered.full ∙ back_not_full (world_of n) cpu)
