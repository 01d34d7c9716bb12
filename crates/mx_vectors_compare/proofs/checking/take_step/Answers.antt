use Rattle.mx_vectors_compare.proofs.Once.{image_once, outcome_once}
use Rattle.mx_vectors_compare.proofs.checking.take_step.Goals as goal

pub returns-in-Run-clause-outcome : goal.returns-in-Run-clause-outcome
returns-in-Run-clause-outcome c = outcome_once c.args.image.now _ c.run_down.ensures.down

pub returns-in-Run-clause-image : goal.returns-in-Run-clause-image
returns-in-Run-clause-image c = image_once c.args.image.now _ c.run_down.ensures.down
