use Rattle.mx_explore.proofs.NoneLemmas.{none_departs}
use Rattle.mx_explore.proofs.schedule_laws.none_is_turns.Goals as goal

pub returns : goal.returns
returns c = none_departs
