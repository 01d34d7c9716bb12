use Rattle.std.proofs.Common.{drop}
use Rattle.mx_proc.specs.Queues.{list_at}
use Rattle.mx_proc.specs.Chains.{IsChain, chains}
use Rattle.mx_proc.proofs.links.Links.get.Given as goal

-- from here the links lead along the rest of the list
abbrev pub invariant-loop-step : goal.invariant-loop-step
invariant-loop-step g l = IsChain l.self-inside.forward.nexts l.at (drop l._step (list_at (chains l.self-inside.forward.nexts l.self-inside.forward.firsts) l.list))
