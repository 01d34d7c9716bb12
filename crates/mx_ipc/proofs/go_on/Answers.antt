use Rattle.std.proofs.Common.{◌∙◌, ap}
use Rattle.mx_sched.specs.Queueing.{table_after_queueing}
use Rattle.mx_ipc.specs.Calls.{goes_on}
use Rattle.mx_ipc.proofs.go_on.Goals as goal

pub returns-clause-value : goal.returns-clause-value
unfolding goes_on
returns-clause-value c = c.enqueue.ensures.value ∙ ap (λ w. table_after_queueing w c.args.slot) c.set_result.ensures.value
