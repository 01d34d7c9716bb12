use Rattle.std.proofs.Common.{◌≡◌, ℕ, ◌<◌, length, get_or, false}
use Rattle.mx_why.specs.Waiting.{wakes_from_outside}
use Rattle.mx_why.proofs.waiting.first_reached.Given as goal

-- the places so far
abbrev pub invariant-loop-slot : goal.invariant-loop-slot
invariant-loop-slot l = record {
  long : length l.reached ≡ 32;
  filled : (k : ℕ) → k < l.slot → get_or l.reached k false ≡ wakes_from_outside l.end k;
}
