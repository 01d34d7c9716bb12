use Rattle.std.proofs.Common.{arith}
use Rattle.mx_proc.proofs.WayLemmas.{nexts_led, nexts_linked}
use Rattle.mx_proc.proofs.links.Way.lead.Goals.{then-before-eq-NONE, else-before-eq-NONE}
use Rattle.mx_proc.proofs.links.Way.lead.Goals as goal

pub returns-clause-nexts : goal.returns-clause-nexts
returns-clause-nexts g c = elim c.if-before-eq-NONE.branch [
  | then-before-eq-NONE w ↦ nexts_led g.row.LISTS _ _ _ _ _ _ c.self.view_is (omega (arith, c.requires.list, c.self.invariant)) w.if-before-eq-NONE.true w.at-is
  | else-before-eq-NONE w ↦ nexts_linked g.row.LISTS _ _ _ _ _ c.self.view_is w.if-before-eq-NONE.false w.at-is
]
