use Rattle.mx_machine.proofs.CurrentLemmas.{ticked_holds}
use Rattle.mx_machine.proofs.current.CurrentState.tick.Goals as goal

pub invariant_of-self : goal.invariant_of-self
invariant_of-self c = ticked_holds _ _ _ c.self.view_is c.self.invariant c.tick.ensures.frame c.tick.ensures.settled c.in_ok-if_full.ensures.ok.1
