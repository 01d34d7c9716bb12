use Rattle.mx_turns.proofs.LawLemmas.{turns_joined}
use Rattle.mx_turns.proofs.joining_laws.turns_join.Goals as goal

pub returns : goal.returns
returns c = turns_joined
