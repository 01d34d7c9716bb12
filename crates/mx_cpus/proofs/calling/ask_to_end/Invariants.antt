use Rattle.mx_cpus.proofs.OutsiderLemmas.{AskedSoFar}
use Rattle.mx_cpus.proofs.calling.ask_to_end.Given as goal

abbrev pub invariant-loop : goal.invariant-loop
invariant-loop g l = AskedSoFar g.M.Naming.boot (g.G.WatchingGate.was_called l.context.door.gate.now) l.initial.seat l.seat l.side
