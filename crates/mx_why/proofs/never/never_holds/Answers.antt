use Rattle.mx_why.proofs.Staying.{stays_waiting}
use Rattle.mx_why.proofs.never.never_holds.Goals as goal

pub returns : goal.returns
returns c = stays_waiting
