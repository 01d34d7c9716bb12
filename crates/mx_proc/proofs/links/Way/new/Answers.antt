use Rattle.mx_proc.proofs.WayLemmas.{none_first}
use Rattle.mx_proc.proofs.links.Way.new.Goals as goal

pub returns-clause-firsts : goal.returns-clause-firsts
returns-clause-firsts g c = none_first _ c.requires.lists
