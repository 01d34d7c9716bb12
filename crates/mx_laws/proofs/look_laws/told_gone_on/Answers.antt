use Rattle.mx_laws.proofs.GoneOn.{gone_on_told}
use Rattle.mx_laws.proofs.look_laws.told_gone_on.Goals as goal

pub returns : goal.returns
returns c = gone_on_told c.diaries_tell_images.ensures.event
