use Rattle.mx_explore.proofs.TreeLemmas.{all_schedules}
use Rattle.mx_explore.proofs.schedule_laws.every_schedule_is_in_the_tree.Goals as goal

pub returns : goal.returns
returns c = all_schedules
