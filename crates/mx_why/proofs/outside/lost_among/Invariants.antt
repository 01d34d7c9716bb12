use Rattle.std.proofs.Common.{◌≡◌, ◌≤◌, ◌+◌, ◌++◌, drop}
use Rattle.mx_why.specs.Outside.{lost_from}
use Rattle.mx_why.proofs.outside.lost_among.Given as goal

-- the lines so far; each record that is found is that of a line
abbrev pub invariant-loop-index : goal.invariant-loop-index
invariant-loop-index l = record {
  lost : l.lost.items ++ lost_from l.tried l.made (l.index + 1) l.found (drop l.index l.said) ≡ lost_from l.tried l.made 1 0 l.said;
  few : l.found ≤ l.index;
}
