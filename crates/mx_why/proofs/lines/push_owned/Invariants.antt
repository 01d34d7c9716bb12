use Rattle.std.proofs.Common.{◌≡◌, ◌++◌}
use Rattle.std.specs.List.{flat_map, range_with_len}
use Rattle.mx_why.specs.Lines.{line_text}
use Rattle.mx_why.proofs.lines.push_owned.Given as goal

-- the parts so far
abbrev pub invariant-loop-line : goal.invariant-loop-line
invariant-loop-line l = l.out.items ≡ l.initial.out.items ++ flat_map (line_text l.end l.slot) (range_with_len 0 l.line)
