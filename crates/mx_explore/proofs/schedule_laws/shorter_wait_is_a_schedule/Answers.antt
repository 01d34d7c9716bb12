use Rattle.mx_explore.proofs.ScheduleLemmas.{shorter_wait}
use Rattle.mx_explore.proofs.schedule_laws.shorter_wait_is_a_schedule.Goals as goal

pub returns : goal.returns
returns c t ds d lt h = (shorter_wait t ds d lt h).0
