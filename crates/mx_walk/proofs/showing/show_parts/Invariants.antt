use Rattle.std.proofs.Common.{◌≡◌, ◌≤◌, ◌-◌, ◌++◌}
use Rattle.mx_walk.specs.Parts.{parts_between}
use Rattle.mx_walk.proofs.showing.show_parts.Given as goal

-- the parts so far
abbrev pub invariant-loop-done : goal.invariant-loop-done
invariant-loop-done g l = record {
  low : l.fn.from ≤ l.done;
  few : l.done - l.fn.from ≤ l.fn.to - l.fn.from;
  shown : g.P.Progress.shown l.progress ≡ g.P.Progress.shown l.initial.progress ++ parts_between l.all l.fn.from l.done;
}
