use Rattle.mx_debug.proofs.Halting.{run_halts}
use Rattle.mx_debug.proofs.resuming.run_on.Goals as goal

pub returns-clause-halts : goal.returns-clause-halts
returns-clause-halts g c = run_halts c.args.k c.run-count.result.0 c.run-count.result.1 (g.H.Held.out c.args.held.now) (g.H.Held.out c.run-count.new.self) c.cause_of.result c.run-count.ensures.ran c.cause_of.ensures
