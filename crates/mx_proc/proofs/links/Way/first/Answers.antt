use Rattle.mx_proc.proofs.WayLemmas.{first_at}
use Rattle.mx_proc.proofs.links.Way.first.Goals as goal

pub returns : goal.returns
returns g c = first_at _ _ _ _ c.self.view_is c.requires.list
