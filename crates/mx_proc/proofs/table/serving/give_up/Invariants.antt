use Rattle.std.proofs.Common.{◌≡◌, ◌++◌, map, take, drop}
use Rattle.mx_proc.specs.Serving.{owner_but}
use Rattle.mx_proc.proofs.table.serving.give_up.Given as goal

-- so far another's
abbrev pub invariant-loop-i : goal.invariant-loop-i
invariant-loop-i l = l.owners ≡ map (owner_but l.slot) (take l.i l.initial.owners) ++ drop l.i l.initial.owners
