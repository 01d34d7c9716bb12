use Rattle.mx_explore.proofs.PartLemmas.{all_join}
use Rattle.mx_explore.proofs.schedule_laws.parts_join.Goals as goal

pub returns : goal.returns
returns c = all_join
