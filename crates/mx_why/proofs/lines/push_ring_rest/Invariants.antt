use Rattle.std.proofs.Common.{◌≡◌, ◌++◌, drop}
use Rattle.mx_why.specs.Lines.{ring_rest}
use Rattle.mx_why.proofs.lines.push_ring_rest.Given as goal

-- with what is left it is all
abbrev pub invariant-loop-other : goal.invariant-loop-other
invariant-loop-other l = l.out.items ++ ring_rest l.end l.slot (drop l.other-index l.chain) ≡ l.initial.out.items ++ ring_rest l.end l.slot l.chain
