-- What has changed of a slot (our own).
use Rattle.std.specs.Prelude.{ℕ, ◌==◌, ◌&&◌, not, nat_lt, nat_le, Bool, true, false, Option, Some, None, is_some, is_none, if◌then◌else◌}
use Rattle.mx_machine.specs.declared.history.Recorded.{Recorded}
use Rattle.mx_machine.specs.declared.history.Recorded.TheVariants.{Take, Back, Tick}
use Rattle.mx_look.specs.declared.slot_glances.SlotGlance.{SlotGlance}
use Rattle.mx_look.specs.declared.glance.CpuGlance.{CpuGlance}
use Rattle.mx_look.specs.declared.transition.Transition.{Transition}
use Rattle.mx_look.specs.Doings.{same_doing}
use Rattle.mx_look.specs.Transition.{slot_in, held_before}

abbrev pub is_take : Recorded → Bool
is_take Take = true
is_take _ = false

abbrev pub is_tick : Recorded → Bool
is_tick Tick = true
is_tick _ = false

abbrev pub is_back : Recorded → Bool
is_back (Back n) = true
is_back _ = false

-- a test of what is seen of a slot before and after
abbrev pub both : (SlotGlance → SlotGlance → Bool) → Option SlotGlance → Option SlotGlance → Bool
both f (Some v) (Some u) = f v u
both f _ _ = false

-- WHAT IT DOES HAS CHANGED, otherwise than by a take
abbrev pub has_changed : Transition → ℕ → Bool
has_changed x s =
    not (is_take x.event) && both (λ v u. not (same_doing v.doing u.doing)) (slot_in x.before s) (slot_in x.after s)

-- AN ALARM RINGS
abbrev pub has_rung : Transition → ℕ → Bool
has_rung x s =
    is_tick x.event && both (λ v u. is_some v.alarm && is_none u.alarm) (slot_in x.before s) (slot_in x.after s)

-- ---- quanta

abbrev pub ticks_used_by : Option CpuGlance → ℕ → ℕ
ticks_used_by None s = 0
ticks_used_by (Some h) s = if h.slot == s then h.count else 0

-- the ticks that a process brings back as used
abbrev pub ticks_used : Transition → ℕ → ℕ
ticks_used x s = if is_back x.event then ticks_used_by (held_before x) s else 0

-- one process, before and after: no ticks were left, and some are
unfoldable pub is_new_quantum : SlotGlance → ℕ → SlotGlance → Bool
is_new_quantum v used u = (v.endpoint == u.endpoint) && nat_le v.ticks used && nat_lt 0 u.ticks

-- A QUANTUM IS RENEWED
abbrev pub is_renewed : Transition → ℕ → Bool
is_renewed x s = both (λ v u. is_new_quantum v (ticks_used x s) u) (slot_in x.before s) (slot_in x.after s)
