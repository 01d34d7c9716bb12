-- Deliveries, and notifications that become pending (our own).
use Rattle.std.specs.Prelude.{ℕ, ◌+◌, ◌-◌, ◌==◌, ◌&&◌, ◌||◌, not, nat_lt, Bool, false, count_by, Option, Some, None, slice_index_or, if◌then◌else◌}
use Rattle.std.specs.List.{range_with_len}
use Rattle.mx_proc.specs.declared.deliveries.Delivery.{Delivery}
use Rattle.mx_look.specs.declared.slot_glances.SlotGlance.{SlotGlance}
use Rattle.mx_look.specs.declared.transition.Transition.{Transition}
use Rattle.mx_look.specs.Going.{got}

-- how many slots from one on got a message
unfoldable pub got_from : Transition → ℕ → ℕ
got_from x s = count_by (got x) (range_with_len s (32 - s))

-- WHAT A SLOT GOT: as many of the latest deliveries as slots got one belong to these, in slot order
unfoldable pub delivery_to : Transition → ℕ → Option Delivery
delivery_to x s = if got x s then slice_index_or x.after.deliveries (got_from x (s + 1)) None else None

-- ---- pending notifications: HARDWARE at 0, CLOCK at 1, slot 0 from 2 on

abbrev pub is_pending : SlotGlance → ℕ → Bool
is_pending g place = nat_lt place 34 && slice_index_or g.pending place false

-- A NOTIFICATION BECOMES PENDING: it is pending and wasn't, or it has other interrupt lines
unfoldable pub is_new_bit : SlotGlance → SlotGlance → ℕ → Bool
is_new_bit v u place = is_pending u place && (not (is_pending v place) || ((place == 0) && not (v.lines == u.lines)))
