use Rattle.mx_cpus.proofs.OutsiderLemmas.{WaitSoFar}
use Rattle.mx_cpus.proofs.calling.wait_for.Given as goal

abbrev pub invariant-loop : goal.invariant-loop
invariant-loop g l = WaitSoFar g.M.Naming.boot (g.G.WatchingGate.was_called l.context.door.gate.now) l.more l.initial.seat l.seat l.side l.seen
