use Rattle.std.proofs.Common.{◌≡◌, ◌++◌, ◌-◌}
use Rattle.mx_why.specs.Waiting.{chain, chain_of}
use Rattle.mx_why.proofs.waiting.push_chain.Given as goal

-- with what is left it is all
abbrev pub invariant-loop-count : goal.invariant-loop-count
invariant-loop-count l = l.slots.items ++ chain_of (32 - l.count) l.end l.at ≡ l.initial.slots.items ++ chain l.end l.fn.slot
