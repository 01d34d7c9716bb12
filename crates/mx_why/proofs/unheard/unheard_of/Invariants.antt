use Rattle.std.proofs.Common.{◌≡◌, ℕ, ◌<◌, length, get_or, None}
use Rattle.mx_why.specs.Unheard.{unheard_at}
use Rattle.mx_why.proofs.unheard.unheard_of.Given as goal

-- the places so far
abbrev pub invariant-loop-slot : goal.invariant-loop-slot
invariant-loop-slot l = record {
  long : length l.found ≡ 32;
  filled : (k : ℕ) → k < l.slot → get_or l.found k None ≡ unheard_at l.end l.notes k;
}
