use Rattle.std.proofs.Common.{◌≡◌, drop, map}
use Rattle.mx_machine.specs.Machine.{world_of}
use Rattle.mx_app_look.specs.Changes.{as_seen, first_change}
use Rattle.mx_app_look.proofs.changes.first_change.Given as goal

-- the first that changed is the first of those that are left
abbrev pub invariant-loop-one : goal.invariant-loop-one
invariant-loop-one l = first_change (world_of l.machine) (map as_seen (drop l.one-index l.seen)) ≡ first_change (world_of l.machine) (map as_seen l.seen)
