use Rattle.std.proofs.Common.{◌≡◌, ℕ, ◌<◌, length, get_or, false}
use Rattle.mx_why.specs.Waiting.{is_reached}
use Rattle.mx_why.proofs.waiting.next_reached.Given as goal

-- the places so far
abbrev pub invariant-loop-slot : goal.invariant-loop-slot
invariant-loop-slot l = record {
  long : length l.next ≡ 32;
  filled : (k : ℕ) → k < l.slot → get_or l.next k false ≡ is_reached l.end l.reached k;
}
