use Rattle.std.proofs.Common.{◌≡◌, ◌++◌, take}
use Rattle.std.specs.List.{flat_map}
use Rattle.mx_why.specs.AfterRun.{fault_line}
use Rattle.mx_why.proofs.after_run.push_each_fault.Given as goal

-- the lines so far
abbrev pub invariant-loop-death : goal.invariant-loop-death
invariant-loop-death l = l.out.items ≡ l.initial.out.items ++ flat_map (fault_line l.end l.notes) (take l.death-index l.deaths)
