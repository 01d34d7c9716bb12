use Rattle.std.proofs.Common.{◌≡◌, ℕ, ◌<◌, length, get_or, None}
use Rattle.mx_why.specs.Seeing.{seat_at}
use Rattle.mx_why.proofs.seeing.seats_of.Given as goal

-- the places so far
abbrev pub invariant-loop-slot : goal.invariant-loop-slot
invariant-loop-slot l = record {
  long : length l.seats ≡ 32;
  filled : (k : ℕ) → k < l.slot → get_or l.seats k None ≡ seat_at l.table l.services k;
}
