use Rattle.std.proofs.Common.{◌≡◌, drop}
use Rattle.mx_app_explain.specs.Sums.{first_other}
use Rattle.mx_app_explain.proofs.comparing.first_other.Given as goal

-- the lines so far are at the text's front
abbrev pub invariant-loop-sum : goal.invariant-loop-sum
invariant-loop-sum l = first_other l.sums l.fn.text ≡ first_other (drop l.sum-index l.sums) l.rest
