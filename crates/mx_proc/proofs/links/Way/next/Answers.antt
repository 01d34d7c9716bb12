use Rattle.mx_proc.proofs.WayLemmas.{next_at}
use Rattle.mx_proc.proofs.links.Way.next.Goals as goal

pub returns : goal.returns
returns g c = next_at g.row.LISTS _ _ _ c.self.view_is
