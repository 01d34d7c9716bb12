use Rattle.mx_laws.proofs.StillLemmas.{stays_still}
use Rattle.mx_laws.proofs.rest_laws.still_machines_stay.Goals as goal

pub returns : goal.returns
returns c = stays_still
