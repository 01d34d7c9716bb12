use Rattle.mx_laws.proofs.AreMade.{are_made_told}
use Rattle.mx_laws.proofs.look_laws.told_are_made.Goals as goal

pub returns : goal.returns
returns c = are_made_told c.diaries_tell_images.ensures.event
