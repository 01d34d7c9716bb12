use Rattle.mx_turns.proofs.TurnLemmas.{other_stays}
use Rattle.mx_app_live.proofs.session.make_round.Goals as goal

pub returns-clause-other : goal.returns-clause-other
returns-clause-other c = other_stays c.args.machine.now c.make_turns-ending.new.machine _ c.make_turns-ending.ensures.made c.requires.other
