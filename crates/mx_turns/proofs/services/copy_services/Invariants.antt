use Rattle.std.proofs.Common.{◌≡◌, take}
use Rattle.mx_turns.proofs.services.copy_services.Given as goal

-- the services so far are copied
abbrev pub invariant-loop-service : goal.invariant-loop-service
invariant-loop-service l = l.copies.items ≡ take l.service-index l.services
