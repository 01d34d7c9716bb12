use Rattle.mx_machine.proofs.AgainLemmas.{runs-again}
use Rattle.mx_machine.specs.Machine.{world_of}
use Rattle.mx_machine.proofs.replay_laws.runs_again.Goals as goal

pub returns : goal.returns
returns c e = let k = c.args.kernel.now in runs-again (world_of c.args.machine.now) k e c.facts.ensures.written (c.histories_replay.ensures k c.facts.ensures.accepted)
