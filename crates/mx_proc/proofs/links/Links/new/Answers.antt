use Rattle.mx_proc.proofs.LinkLemmas.{none_linked, shows_same}
use Rattle.mx_proc.proofs.links.Links.new.Goals as goal

pub invariant_of-result : goal.invariant_of-result
invariant_of-result g c = (shows_same _ _ _ _ _ _ _ _ _ _ c.new.ensures.nexts c.new-2.ensures.nexts c.new.ensures.firsts c.new-2.ensures.firsts (none_linked g.row.LISTS)).sound

pub returns : goal.returns
returns g c = (shows_same _ _ _ _ _ _ _ _ _ _ c.new.ensures.nexts c.new-2.ensures.nexts c.new.ensures.firsts c.new-2.ensures.firsts (none_linked g.row.LISTS)).are
