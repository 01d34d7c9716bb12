use Rattle.mx_machine.proofs.CurrentLemmas.{raised_holds}
use Rattle.mx_machine.proofs.current.CurrentState.raise.Goals as goal

pub invariant_of-self : goal.invariant_of-self
invariant_of-self c = raised_holds _ _ _ c.self.view_is c.self.invariant c.raise.ensures.frame c.raise.ensures.settled c.in_ok-if_full.ensures.ok.1
