use Rattle.mx_cpus.proofs.LoopLemmas.{asked_by}
use Rattle.mx_cpus.proofs.side.LoopContext.ask.Goals as goal

pub returns-clause-asked : goal.returns-clause-asked
returns-clause-asked g c =
    asked_by g.M.Naming.boot (g.G.WatchingGate.was_called c.args.self.now.door.gate.now) c.args.is_done c.args.seat c.how_far-seat.result.0 c.args.side.actor c.how_far-seat.result.1 c.ask.result.goes_on
    c.requires.actor c.how_far-seat.ensures.rest c.how_far-seat.ensures.records c.ask.ensures.seen c.ask.ensures.called
