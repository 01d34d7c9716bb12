use Rattle.std.proofs.Common.{◌≡◌}
use Rattle.mx_why.specs.Waiting.{reached_within}
use Rattle.mx_why.proofs.waiting.reached.Given as goal

-- over as many others as there were rounds
abbrev pub invariant-loop-round : goal.invariant-loop-round
invariant-loop-round l = l.reached ≡ reached_within l.round l.end
