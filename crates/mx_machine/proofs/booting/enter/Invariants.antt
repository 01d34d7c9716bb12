use Rattle.std.proofs.Common.{◌≡◌, take}
use Rattle.mx_machine.specs.Boot.{first_table}
use Rattle.mx_machine.proofs.booting.enter.Given as goal

-- the services so far have their slots
abbrev pub invariant-loop-service : goal.invariant-loop-service
invariant-loop-service l = l.table ≡ first_table l.fn.table.rules (take l.service-index l.services)
