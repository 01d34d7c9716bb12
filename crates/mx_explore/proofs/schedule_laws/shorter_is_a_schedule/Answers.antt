use Rattle.mx_explore.proofs.ScheduleLemmas.{shorter}
use Rattle.mx_explore.proofs.schedule_laws.shorter_is_a_schedule.Goals as goal

pub returns : goal.returns
returns c t ds d h = (shorter t ds d h).0
