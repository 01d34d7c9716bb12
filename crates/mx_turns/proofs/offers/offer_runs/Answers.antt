use Rattle.std.proofs.Common.{◌∙◌, ◌+◌, false}
use Rattle.mx_turns.specs.Turns.{run_of, runs}
use Rattle.mx_turns.proofs.OfferLemmas.{runs_more}
use Rattle.mx_turns.proofs.MadeLemmas.{more_done}
use Rattle.mx_turns.proofs.offers.offer_runs.Goals as goal

pub loop-cpu-preserved : goal.loop-cpu-preserved
loop-cpu-preserved c =
    let cpu = c.loop-cpu.cpu in
    record {
      offered = more_done c.args.machine.now c.loop-cpu.machine c.offer_run.new.machine (runs cpu) (run_of cpu) (runs (cpu + 1)) false (runs_more cpu) c.loop-cpu.invariant.offered c.offer_run.ensures.offered;
      as_many = c.offer_run.ensures.actors ∙ c.loop-cpu.invariant.as_many;
    }
