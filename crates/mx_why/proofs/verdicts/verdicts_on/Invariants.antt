use Rattle.std.proofs.Common.{◌≡◌, ℕ, ◌<◌, length, get_or, None}
use Rattle.mx_why.specs.Verdicts.{verdict}
use Rattle.mx_why.proofs.verdicts.verdicts_on.Given as goal

-- the places so far
abbrev pub invariant-loop-slot : goal.invariant-loop-slot
invariant-loop-slot l = record {
  long : length l.said ≡ 32;
  filled : (k : ℕ) → k < l.slot → get_or l.said k None ≡ verdict l.end k;
}
