use Rattle.std.proofs.Common.{◌≡◌, ◌++◌, map, take, drop}
use Rattle.mx_machine.specs.Machine.{world_of}
use Rattle.mx_why.specs.Readings.{followed_call}
use Rattle.mx_why.proofs.readings.follow_each.Given as goal

-- those so far are looked at on
abbrev pub invariant-loop-index : goal.invariant-loop-index
invariant-loop-index l =
    l.calls ≡ map (followed_call (world_of l.machine) l.actor l.event) (take l.index l.initial.calls) ++ drop l.index l.initial.calls
