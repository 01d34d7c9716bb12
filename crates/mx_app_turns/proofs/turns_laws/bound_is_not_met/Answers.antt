use Rattle.mx_app_turns.proofs.TurnedLemmas.{not_by_bound}
use Rattle.mx_app_turns.proofs.turns_laws.bound_is_not_met.Goals as goal

pub returns : goal.returns
returns c = not_by_bound
