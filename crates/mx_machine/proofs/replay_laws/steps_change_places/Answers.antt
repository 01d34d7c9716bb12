use Rattle.mx_machine.proofs.StepLemmas.{step-changes}
use Rattle.mx_machine.proofs.replay_laws.steps_change_places.Goals as goal

pub returns : goal.returns
returns c w cpu a x l h n = step-changes w cpu a x l h n
