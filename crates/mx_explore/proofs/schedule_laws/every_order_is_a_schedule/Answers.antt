use Rattle.mx_explore.proofs.HistoryLemmas.{every_order}
use Rattle.mx_explore.proofs.schedule_laws.every_order_is_a_schedule.Goals as goal

pub returns : goal.returns
returns c = every_order
