use Rattle.std.proofs.Common.{◌≡◌, ◌++◌, take}
use Rattle.std.specs.List.{flat_map}
use Rattle.mx_why.specs.UnfitLines.{unfit_line}
use Rattle.mx_why.proofs.unfit_lines.push_each_unfit.Given as goal

-- the lines so far
abbrev pub invariant-loop-unfit : goal.invariant-loop-unfit
invariant-loop-unfit l = l.out.items ≡ l.initial.out.items ++ flat_map (unfit_line l.lines) (take l.unfit-index l.found)
