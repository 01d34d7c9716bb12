-- Who goes on, and whose trap is acted (our own).
use Rattle.std.specs.Prelude.{ℕ, ◌==◌, ◌&&◌, ◌||◌, Bool, true, false, Option, Some, None, if◌then◌else◌}
use Rattle.mx_image.specs.declared.runs.Stop.{Stop}
use Rattle.mx_image.specs.declared.runs.Stop.TheVariants as stop
use Rattle.mx_machine.specs.declared.history.Recorded.{Recorded}
use Rattle.mx_machine.specs.declared.history.Recorded.TheVariants.{Back}
use Rattle.mx_look.specs.declared.slot_glances.SlotGlance.{SlotGlance}
use Rattle.mx_look.specs.declared.glance.CpuGlance.{CpuGlance}
use Rattle.mx_look.specs.declared.transition.Transition.{Transition}
use Rattle.mx_look.specs.Doings.{is_ready, is_waiting, is_listening, is_out, seen_is}
use Rattle.mx_look.specs.Transition.{slot_in, held_before}

abbrev pub is_trap : Stop → Bool
is_trap stop.Spent = false
is_trap stop.Trap = true
is_trap (stop.Fault v) = false

abbrev pub is_trapped : CpuGlance → Bool
is_trapped h = is_trap h.stop

abbrev pub acting_of : Transition → Option CpuGlance → Option CpuGlance
acting_of x None = None
acting_of x (Some h) = if is_trapped h && seen_is is_out (slot_in x.before h.slot) then Some h else None

abbrev pub acting_by : Transition → Recorded → Option CpuGlance
acting_by x (Back n) = acting_of x (held_before x)
acting_by x _ = None

-- A TRAP IS ACTED that came back with its process, unless this is doomed
unfoldable pub acting : Transition → Option CpuGlance
acting x = acting_by x x.event

abbrev pub is_acted_by : Option CpuGlance → ℕ → Bool
is_acted_by None s = false
is_acted_by (Some h) s = h.slot == s

abbrev pub is_acted : Transition → ℕ → Bool
is_acted x s = is_acted_by (acting x) s

-- RECEIVE is call 2
abbrev pub calls_receive_by : Option CpuGlance → Bool
calls_receive_by None = false
calls_receive_by (Some h) = h.image.ecx == 2

abbrev pub calls_receive : Transition → Bool
calls_receive x = calls_receive_by (acting x)

-- EAX of who is ready
abbrev pub result_in : Option SlotGlance → Option ℕ
result_in None = None
result_in (Some u) = if is_ready u.doing then Some u.image.eax else None

-- A SLOT HAS GONE ON with a result: it is ready, and was waiting for a partner, or its trap was acted
unfoldable pub gone_on : Transition → ℕ → Option ℕ
gone_on x s = if seen_is is_waiting (slot_in x.before s) || is_acted x s then result_in (slot_in x.after s) else None

abbrev pub is_zero : Option ℕ → Bool
is_zero None = false
is_zero (Some r) = r == 0

-- A SLOT GOT A MESSAGE: it has gone on with 0, and was waiting for one, or its trap called RECEIVE
unfoldable pub got : Transition → ℕ → Bool
got x s = is_zero (gone_on x s) && (seen_is is_listening (slot_in x.before s) || (is_acted x s && calls_receive x))
