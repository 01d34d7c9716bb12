use Rattle.std.proofs.Common.{arith}
use Rattle.mx_machine.proofs.CurrentLemmas.{leased_known, returned_holds}
use Rattle.mx_machine.proofs.current.CurrentState.come_back.Goals as goal

pub come_home-requires-clause-slot : goal.come_home-requires-clause-slot
come_home-requires-clause-slot c = (leased_known _ _ c.args.cpu c.args.lease c.self.view_is c.self.invariant c.sound.ensures c.requires.lease).used

pub come_home-requires-clause-out : goal.come_home-requires-clause-out
come_home-requires-clause-out c = (leased_known _ _ c.args.cpu c.args.lease c.self.view_is c.self.invariant c.sound.ensures c.requires.lease).out

pub come_home-requires-clause-ticks : goal.come_home-requires-clause-ticks
come_home-requires-clause-ticks c = let k = leased_known _ _ c.args.cpu c.args.lease c.self.view_is c.self.invariant c.sound.ensures c.requires.lease in omega (arith, k.ticks, c.requires.count)

pub invariant_of-self : goal.invariant_of-self
invariant_of-self c = let k = leased_known _ _ c.args.cpu c.args.lease c.self.view_is c.self.invariant c.sound.ensures c.requires.lease in
    returned_holds _ _ _ c.args.cpu c.args.lease c.args.out.now c.self.view_is c.self.invariant c.requires.lease c.requires.loaded c.come_home.ensures.returned (omega (arith, k.few, c.requires.count))

pub returns-clause-few : goal.returns-clause-few
returns-clause-few c = let k = leased_known _ _ c.args.cpu c.args.lease c.self.view_is c.self.invariant c.sound.ensures c.requires.lease in omega (arith, k.few, c.requires.count)
