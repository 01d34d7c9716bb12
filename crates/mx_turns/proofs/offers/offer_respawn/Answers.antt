use Rattle.mx_turns.proofs.MadeLemmas.{respawn_of_none_down}
use Rattle.mx_turns.proofs.offers.offer_respawn.Goals as goal

pub returns-clause-offered : goal.returns-clause-offered
returns-clause-offered c = respawn_of_none_down c.args.machine.now c.args.other c.args.slot (c.is_down.ensures c.if-is_down.false)
