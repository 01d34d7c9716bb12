use Rattle.std.proofs.Common.{◌≡◌, ◌++◌}
use Rattle.std.specs.List.{flat_map, range_with_len}
use Rattle.mx_why.specs.Unfit.{towards_at}
use Rattle.mx_why.proofs.unfit.push_towards_all.Given as goal

-- what is found so far
abbrev pub invariant-loop-other : goal.invariant-loop-other
invariant-loop-other l = l.found.items ≡ l.initial.found.items ++ flat_map (towards_at l.lines l.slot l.masks) (range_with_len 0 l.other)
