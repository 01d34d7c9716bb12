use Rattle.std.proofs.Common.{◌≡◌, ◌++◌}
use Rattle.std.specs.List.{flat_map, range_with_len}
use Rattle.mx_why.specs.Checking.{bare_service_at}
use Rattle.mx_why.proofs.checking.push_bare_services.Given as goal

-- what is found so far
abbrev pub invariant-loop-slot : goal.invariant-loop-slot
invariant-loop-slot l = l.found.items ≡ l.initial.found.items ++ flat_map (bare_service_at l.services) (range_with_len 0 l.slot)
