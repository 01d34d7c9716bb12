use Rattle.std.proofs.Common.{◌≡◌, take}
use Rattle.std.specs.List.{flat_map}
use Rattle.mx_app_explain.specs.Sums.{sum_line}
use Rattle.mx_app_explain.proofs.sums.sums_text.Given as goal

abbrev pub invariant-loop-sum : goal.invariant-loop-sum
invariant-loop-sum l = l.out.items ≡ flat_map sum_line (take l.sum-index l.sums)
