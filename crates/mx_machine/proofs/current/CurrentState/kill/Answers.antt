use Rattle.mx_machine.proofs.CurrentLemmas.{killed_holds}
use Rattle.mx_machine.proofs.current.CurrentState.kill.Goals as goal

pub invariant_of-self : goal.invariant_of-self
invariant_of-self c = killed_holds _ _ _ c.self.view_is c.self.invariant c.kill.ensures.frame c.kill.ensures.console c.kill.ensures.settled c.in_ok-if_full.ensures.ok.1
