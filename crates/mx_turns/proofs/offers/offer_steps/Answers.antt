use Rattle.mx_turns.proofs.MadeLemmas.{work_done}
use Rattle.mx_turns.proofs.offers.offer_steps.Goals as goal

pub returns-clause-offered : goal.returns-clause-offered
returns-clause-offered c = work_done _ _ c.args.machine.now c.work.new.self c.args.cpu c.work.result c.work.ensures.ok c.work.ensures.err c.work.ensures.kernel
