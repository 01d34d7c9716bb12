use Rattle.mx_proc.proofs.WayLemmas.{next_set, firsts_stay}
use Rattle.mx_proc.proofs.links.Way.set_next.Goals as goal

pub returns-clause-firsts : goal.returns-clause-firsts
returns-clause-firsts g c = firsts_stay _ _ _ _ _ c.self.view_is c.self.invariant

pub returns-clause-nexts : goal.returns-clause-nexts
returns-clause-nexts g c = next_set g.row.LISTS _ _ _ _ c.self.view_is
