use Rattle.std.proofs.Common.{◌≡◌, ◌++◌, take}
use Rattle.std.specs.List.{flat_map}
use Rattle.mx_why.specs.AfterRun.{careless_line}
use Rattle.mx_why.proofs.after_run.push_each_careless.Given as goal

-- the lines so far
abbrev pub invariant-loop-call : goal.invariant-loop-call
invariant-loop-call l = l.out.items ≡ l.initial.out.items ++ flat_map (careless_line l.config l.end) (take l.call-index l.calls)
