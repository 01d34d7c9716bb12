use Rattle.std.proofs.Common.{◌≡◌, drop}
use Rattle.mx_machine.specs.Rest.{down_are_worn}
use Rattle.mx_machine.proofs.current.down_are_worn.Given as goal

-- what is left decides
abbrev pub invariant-loop-slot : goal.invariant-loop-slot
invariant-loop-slot l = down_are_worn (drop l.slot l.table.slots) (drop l.slot l.services) ≡ down_are_worn l.table.slots l.services
