use Rattle.std.proofs.Common.{◌≡◌, ℕ, ◌<◌, length, get_or, None}
use Rattle.mx_look.specs.Kept.{latest}
use Rattle.mx_look.proofs.kept.look_at_deliveries.Given as goal

-- the places so far
abbrev pub invariant-loop-back : goal.invariant-loop-back
invariant-loop-back l = record {
  long : length l.deliveries ≡ 32;
  filled : (k : ℕ) → k < l.back → get_or l.deliveries k None ≡ latest l.table.deliveries l.count l.most k;
}
