use Rattle.std.proofs.Common.{◌≡◌, ◌++◌}
use Rattle.std.specs.List.{flat_map, range_with_len}
use Rattle.mx_why.specs.Unfit.{unfit_at}
use Rattle.mx_why.proofs.unfit.push_unfit_masks.Given as goal

-- what is found so far
abbrev pub invariant-loop-slot : goal.invariant-loop-slot
invariant-loop-slot l = l.found.items ≡ l.initial.found.items ++ flat_map (unfit_at l.config.rules l.config.lines) (range_with_len 0 l.slot)
