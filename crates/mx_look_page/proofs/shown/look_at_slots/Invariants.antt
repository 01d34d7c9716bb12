use Rattle.std.proofs.Common.{◌≡◌, ℕ, ◌<◌, length, get_or, None}
use Rattle.mx_look_page.specs.Shown.{slot_state}
use Rattle.mx_look_page.proofs.shown.look_at_slots.Given as goal

-- the places so far
abbrev pub invariant-loop-slot : goal.invariant-loop-slot
invariant-loop-slot l = record {
  long : length l.slots ≡ 32;
  filled : (k : ℕ) → k < l.slot → get_or l.slots k None ≡ slot_state l.glance k;
}
