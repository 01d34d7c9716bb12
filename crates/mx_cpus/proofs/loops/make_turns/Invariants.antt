use Rattle.mx_cpus.proofs.LoopLemmas.{TurnsSoFar}
use Rattle.mx_cpus.proofs.loops.make_turns.Given as goal

abbrev pub invariant-loop : goal.invariant-loop
invariant-loop g l = TurnsSoFar g.M.Naming.boot (g.G.WatchingGate.was_called l.context.door.gate.now) l.initial.seat l.seat l.side
