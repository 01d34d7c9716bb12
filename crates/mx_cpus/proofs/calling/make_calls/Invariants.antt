use Rattle.mx_cpus.proofs.OutsiderLemmas.{CallsSoFar}
use Rattle.mx_cpus.proofs.calling.make_calls.Given as goal

abbrev pub invariant-loop-call : goal.invariant-loop-call
invariant-loop-call g l = CallsSoFar g.M.Naming.boot (g.G.WatchingGate.was_called l.context.door.gate.now) l.calls l.call-index l.initial.seat l.seat l.side
