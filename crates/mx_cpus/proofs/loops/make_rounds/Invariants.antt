use Rattle.mx_cpus.proofs.LoopLemmas.{RoundsSoFar}
use Rattle.mx_cpus.proofs.loops.make_rounds.Given as goal

abbrev pub invariant-loop : goal.invariant-loop
invariant-loop g l = RoundsSoFar g.M.Naming.boot (g.G.WatchingGate.was_called l.context.door.gate.now) l.initial.left l.initial.seat l.seat l.side l.left
