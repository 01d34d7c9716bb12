use Rattle.std.proofs.Common.{◌≡◌, ◌++◌, take}
use Rattle.std.specs.List.{flat_map}
use Rattle.mx_why.specs.FailedLines.{failed_line}
use Rattle.mx_why.proofs.failed_lines.push_each.Given as goal

-- the lines so far
abbrev pub invariant-loop-call : goal.invariant-loop-call
invariant-loop-call l = l.out.items ≡ l.initial.out.items ++ flat_map (failed_line l.config l.end) (take l.call-index l.calls)
