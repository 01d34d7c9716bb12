use Rattle.mx_machine.proofs.FrameLemmas.{kept_frame, same_written, same_console}
use Rattle.mx_machine.proofs.ServingLemmas.{goes_on_settled, is_down_not_home}
use Rattle.mx_machine.proofs.serving.resume.Goals as goal

pub returns-then-doomed-clause-console : goal.returns-then-doomed-clause-console
returns-then-doomed-clause-console c = same_console c.args.table.now c.die.new.table c.die.ensures.console

pub returns-then-doomed-clause-settled : goal.returns-then-doomed-clause-settled
returns-then-doomed-clause-settled c = goes_on_settled c.args.table.now c.die.new.table c.args.slot c.die.ensures.settled (is_down_not_home _ _ c.die.ensures.down)

pub returns-in-Spent-clause-frame : goal.returns-in-Spent-clause-frame
returns-in-Spent-clause-frame c = kept_frame _ _ c.enqueue.ensures.frame

pub returns-in-Spent-clause-console : goal.returns-in-Spent-clause-console
returns-in-Spent-clause-console c = same_written _ _ c.enqueue.ensures.frame

pub returns-in-Fault-clause-console : goal.returns-in-Fault-clause-console
returns-in-Fault-clause-console c = same_console c.args.table.now c.die-in-Fault.new.table c.die-in-Fault.ensures.console

pub returns-in-Fault-clause-settled : goal.returns-in-Fault-clause-settled
returns-in-Fault-clause-settled c = goes_on_settled c.args.table.now c.die-in-Fault.new.table c.args.slot c.die-in-Fault.ensures.settled (is_down_not_home _ _ c.die-in-Fault.ensures.down)
