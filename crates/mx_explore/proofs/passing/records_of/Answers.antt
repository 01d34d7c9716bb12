use Rattle.std.proofs.Common.{ap, length}
use Rattle.mx_walk.specs.declared.progress.Part.{Part}
use Rattle.mx_turns.proofs.ShownLemmas.{part_now}
use Rattle.mx_explore.proofs.passing.records_of.Goals as goal

pub returns : goal.returns
returns c =
    ap (λ (p : Part). p.done) (part_now 0 c.args.machine.now c.kernel-kernel.result.now (length c.history.result.now) c.kernel-kernel.ensures c.facts.ensures.booted c.facts.ensures.accepted (ap length c.history.ensures))
