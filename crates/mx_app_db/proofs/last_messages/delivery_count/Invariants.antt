use Rattle.std.proofs.Common.{◌≤◌, length}
use Rattle.mx_machine.specs.History.{replay}
use Rattle.mx_app_db.proofs.last_messages.delivery_count.Given as goal

-- so many are there
abbrev pub invariant-loop-count : goal.invariant-loop-count
invariant-loop-count l = l.count ≤ length (replay l.kernel).table.deliveries
