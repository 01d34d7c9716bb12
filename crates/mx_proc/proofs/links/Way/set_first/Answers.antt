use Rattle.std.proofs.Common.{arith}
use Rattle.mx_proc.proofs.WayLemmas.{first_set, nexts_stay}
use Rattle.mx_proc.proofs.links.Way.set_first.Goals as goal

pub returns-clause-firsts : goal.returns-clause-firsts
returns-clause-firsts g c = first_set _ _ _ _ _ c.self.view_is c.requires.list

pub returns-clause-nexts : goal.returns-clause-nexts
returns-clause-nexts g c = nexts_stay g.row.LISTS _ _ _ _ c.self.view_is (omega (arith, c.requires.list, c.self.invariant))
