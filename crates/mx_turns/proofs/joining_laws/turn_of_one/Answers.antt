use Rattle.mx_turns.proofs.RoundLemmas.{turn_of_one}
use Rattle.mx_turns.proofs.joining_laws.turn_of_one.Goals as goal

pub returns : goal.returns
returns c = turn_of_one
