use Rattle.std.proofs.Common.{◌≡◌, ◌++◌}
use Rattle.std.specs.List.{flat_map, range_with_len}
use Rattle.mx_why.specs.Deaths.{death_at}
use Rattle.mx_why.proofs.deaths.deaths_of.Given as goal

-- the deaths so far
abbrev pub invariant-loop-index : goal.invariant-loop-index
invariant-loop-index l = l.found.items ≡ l.initial.found.items ++ flat_map (death_at l.notes) (range_with_len 0 l.index)
