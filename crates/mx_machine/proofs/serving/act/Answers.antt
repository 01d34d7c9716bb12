use Rattle.std.proofs.Common.{subst}
use Rattle.mx_ipc.specs.Proc.TableState.{TableState}
use Rattle.mx_machine.specs.Serving.{WritesAtMostOne}
use Rattle.mx_machine.proofs.FrameLemmas.{kept_frame, same_written}
use Rattle.mx_machine.proofs.ServingLemmas.{goes_on_settled}
use Rattle.mx_machine.proofs.serving.act.Goals as goal

pub returns-in-Done-clause-frame : goal.returns-in-Done-clause-frame
returns-in-Done-clause-frame c = kept_frame _ _ c.trap.ensures.frame

pub returns-in-Done-clause-console : goal.returns-in-Done-clause-console
returns-in-Done-clause-console c = same_written _ _ c.trap.ensures.frame

pub returns-in-Kernel-clause-console : goal.returns-in-Kernel-clause-console
returns-in-Kernel-clause-console c = subst (λ (t : TableState). WritesAtMostOne t c.call.new.table) (c.trap.ensures.same c.in-Kernel.is) c.call.ensures.console

pub returns-in-Kernel-clause-settled : goal.returns-in-Kernel-clause-settled
returns-in-Kernel-clause-settled c = goes_on_settled c.args.table.now c.call.new.table c.args.slot (λ s h. c.call.ensures.settled s (c.trap.ensures.settled s h)) c.call.ensures.own
