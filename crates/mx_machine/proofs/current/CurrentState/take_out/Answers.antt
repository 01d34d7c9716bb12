use Rattle.std.proofs.Common.{ap}
use Rattle.mx_ipc.specs.Proc.declared.process.Process.{Process}
use Rattle.mx_machine.proofs.CurrentLemmas.{taken_holds}
use Rattle.mx_machine.proofs.current.CurrentState.take_out.Goals as goal

pub invariant_of-self : goal.invariant_of-self
invariant_of-self c = taken_holds _ _ _ c.args.cpu c.args.slot _ c.self.view_is c.self.invariant c.requires.cpu c.requires.idle c.requires.ready c.requires.room c.send_out.ensures.sent (ap (λ (p : Process). p.schedule.ticks) c.process.ensures.value)
