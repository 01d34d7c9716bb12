use Rattle.std.proofs.Common.{◌≡◌, ◌++◌}
use Rattle.std.specs.List.{flat_map, range_with_len}
use Rattle.mx_why.specs.Unfit.{bare_at}
use Rattle.mx_why.proofs.unfit.push_bare.Given as goal

-- what is found so far
abbrev pub invariant-loop-slot : goal.invariant-loop-slot
invariant-loop-slot l = l.found.items ≡ l.initial.found.items ++ flat_map (bare_at l.end) (range_with_len 0 l.slot)
