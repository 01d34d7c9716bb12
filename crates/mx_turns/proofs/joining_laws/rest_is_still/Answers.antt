use Rattle.mx_turns.proofs.LawLemmas.{rest_still}
use Rattle.mx_turns.proofs.joining_laws.rest_is_still.Goals as goal

pub returns : goal.returns
returns c = rest_still
