-- What the picture shows of a run: its transitions, and the worlds between them (our own).
use Rattle.std.specs.Prelude.{ℕ, find, ◌+◌, ◌-◌, ◌==◌, ◌&&◌, Bool, true, false, Option, Some, None, slice_get, if◌then◌else◌}
use Rattle.std.specs.List.{range_with_len}
use Rattle.mx_look.specs.declared.slot_glances.SlotGlance.{SlotGlance}
use Rattle.mx_look.specs.declared.glance.CpuGlance.{CpuGlance}
use Rattle.mx_look.specs.declared.glance.Glance.{Glance}
use Rattle.mx_look.specs.declared.transition.Transition.{Transition}
use Rattle.mx_look.specs.Transition.{slot_in, cpu_in}
use Rattle.mx_look.specs.Doings.{same_doing}
use Rattle.mx_app_draw.specs.declared.scene_values.Scene.{Scene}
use Rattle.mx_app_draw.specs.declared.scene_values.Standing.{Standing}

-- ---- worlds. Take the strip whose first transition has the index `place`: its column 0 has the world before that
-- transition, and column c the world after the strip's c-th transition

abbrev pub before_or : Glance → Option Transition → Glance
before_or g None = g
before_or g (Some x) = x.before

abbrev pub after_or : Glance → Option Transition → Glance
after_or g None = g
after_or g (Some x) = x.after

unfoldable pub world_at : Scene → ℕ → ℕ → Glance
world_at v place c =
    if c == 0 then before_or v.world (slice_get v.transitions.items place)
    else after_or v.world (slice_get v.transitions.items (place + c - 1))

-- the number of the last record before a world
abbrev pub number_before_or : ℕ → Option Transition → ℕ
number_before_or first None = first - 1
number_before_or first (Some x) = x.number - 1

abbrev pub number_or : ℕ → Option Transition → ℕ
number_or first None = first
number_or first (Some x) = x.number

unfoldable pub number_at : Scene → ℕ → ℕ → ℕ
number_at v place c =
    if c == 0 then number_before_or v.first (slice_get v.transitions.items place)
    else number_or v.first (slice_get v.transitions.items (place + c - 1))

-- ---- what the picture shows of a slot

abbrev pub holds_by : ℕ → Option CpuGlance → Bool
holds_by s None = false
holds_by s (Some h) = h.slot == s

-- a processor holds the process of a slot
abbrev pub holds : Glance → ℕ → ℕ → Bool
holds g s a = holds_by s (cpu_in g a)

abbrev pub cpu_of : Glance → ℕ → Option ℕ
cpu_of g s = find (holds g s) (range_with_len 0 8)

abbrev pub standing_by : Glance → ℕ → Option SlotGlance → Option Standing
standing_by g s None = None
standing_by g s (Some u) = Some (record { name = u.name; endpoint = u.endpoint; doing = u.doing; cpu = cpu_of g s })

unfoldable pub standing_of : Glance → ℕ → Option Standing
standing_of g s = standing_by g s (slot_in g s)

-- ---- two columns of a slot belong to one bar: same endpoint, same doing, same processor

abbrev pub same_cpu : Option ℕ → Option ℕ → Bool
same_cpu None None = true
same_cpu (Some a) (Some b) = a == b
same_cpu _ _ = false

abbrev pub same_standing : Standing → Standing → Bool
same_standing a b = (a.endpoint == b.endpoint) && same_doing a.doing b.doing && same_cpu a.cpu b.cpu

abbrev pub same_seen : Option Standing → Option Standing → Bool
same_seen None None = true
same_seen (Some a) (Some b) = same_standing a b
same_seen _ _ = false
