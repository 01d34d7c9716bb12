use Rattle.std.proofs.Common.{◌≡◌, drop}
use Rattle.mx_why.specs.Verdicts.{ring_in}
use Rattle.mx_why.proofs.verdicts.first_of_ring.Given as goal

-- none so far
abbrev pub invariant-loop-index : goal.invariant-loop-index
invariant-loop-index l = ring_in (drop l.index l.chain) ≡ ring_in l.chain
