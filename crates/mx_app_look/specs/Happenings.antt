-- What `until` looks for, in the words of a trace (our own).
use Rattle.std.specs.Prelude.{ℕ, ◌==◌, ◌^◌, ◌&&◌, ◌||◌, not, nat_le, nat_lt, Bool, false, List, Option, Some, None, slice_index, if◌then◌else◌}
use Rattle.std.specs.List.{list_any, range_with_len}
use Rattle.mx_look.specs.declared.glance.CpuGlance.{CpuGlance}
use Rattle.mx_look.specs.declared.transition.Transition.{Transition}
use Rattle.mx_look.specs.Calls.{kernel_call}
use Rattle.mx_look.specs.Deliveries.{delivery_to}
use Rattle.mx_look.specs.Doings.{is_down, is_ready, seen_is}
use Rattle.mx_look.specs.Going.{gone_on}
use Rattle.mx_look.specs.declared.slot_glances.SlotGlance.{SlotGlance}
use Rattle.mx_look.specs.Transition.{slot_in}
use Rattle.mx_look.specs.Glances.{glance_of}
use Rattle.mx_machine.specs.declared.events.Event.{Event}
use Rattle.mx_machine.specs.declared.events.Event.TheVariants as events
use Rattle.mx_machine.specs.declared.history.Recorded.{Recorded}
use Rattle.mx_machine.specs.KernelState.{recorded_as}
use Rattle.mx_machine.specs.World.{World}
use Rattle.mx_proc.specs.declared.deliveries.Delivery.{Delivery}
use Rattle.mx_proc.specs.EndpointNumbers.{slot_of}
use Rattle.mx_app_look.specs.declared.happening.Happening.{Happening}
use Rattle.mx_app_look.specs.declared.happening.Happening.TheVariants as happening

-- a request's type is its second word, after the source
abbrev pub has_type : Option (List ℕ) → ℕ → Bool
has_type None kind = false
has_type (Some words) kind = slice_index words 1 == kind

abbrev pub called_by : Option CpuGlance → ℕ → ℕ → Bool
called_by None slot kind = false
called_by (Some h) slot kind = (h.slot == slot) && has_type h.image.words kind

-- the slot's process makes a kernel call of this type
abbrev pub calls : Transition → ℕ → ℕ → Bool
calls x slot kind = called_by (kernel_call x) slot kind

-- it is down, and wasn't
abbrev pub dies : Transition → ℕ → Bool
dies x slot = not (seen_is is_down (slot_in x.before slot)) && seen_is is_down (slot_in x.after slot)

abbrev pub comes_from : Option Delivery → ℕ → Bool
comes_from None slot = false
comes_from (Some d) slot = slot_of d.from == slot

-- a message or a notification comes from one slot's process to another's
abbrev pub is_delivered : Transition → ℕ → ℕ → Bool
is_delivered x from to = nat_lt to 32 && comes_from (delivery_to x to) from

-- a result is an error, which is a negative number of 32 bits
abbrev pub is_error : Option ℕ → Bool
is_error None = false
is_error (Some r) = nat_le (2 ^ 31) r

-- the type of the reply in the buffer of a caller that goes on
abbrev pub reply_type : Option (List ℕ) → Option ℕ
reply_type None = None
reply_type (Some reply) = Some (slice_index reply 1)

abbrev pub answer_in : SlotGlance → Option ℕ
answer_in u = if is_ready u.doing then reply_type u.image.words else None

abbrev pub answer_at : Option SlotGlance → Option ℕ
answer_at None = None
answer_at (Some u) = answer_in u

abbrev pub answer_by : Transition → ℕ → Option CpuGlance → Option ℕ
answer_by x slot None = None
answer_by x slot (Some h) = if h.slot == slot then answer_at (slot_in x.after slot) else None

-- the answer to the kernel call that a slot's process makes
abbrev pub answer_to : Transition → ℕ → Option ℕ
answer_to x slot = answer_by x slot (kernel_call x)

-- a trap of the slot's process ends with an error: it was refused, or its partner died; or a kernel call of it is
-- answered with one
abbrev pub fails : Transition → ℕ → Bool
fails x slot = is_error (gone_on x slot) || is_error (answer_to x slot)

abbrev pub any_fails : Transition → Bool
any_fails x = list_any (fails x) (range_with_len 0 32)

-- WHAT A RECORD'S TRACE HAS
abbrev pub happens : Happening → Transition → Bool
happens (happening.Call slot kind) x = calls x slot kind
happens (happening.Death slot) x = dies x slot
happens (happening.Delivery from to) x = is_delivered x from to
happens (happening.Error (Some slot)) x = fails x slot
happens (happening.Error None) x = any_fails x

-- ---- along a history

-- an event as a record has it; a step is no record's own. How many steps are before a return makes no difference here
abbrev pub own_record : Event → Option Recorded
own_record events.Step = None
own_record e = Some (recorded_as e)

abbrev pub event_seen : World → ℕ → Recorded → World → Transition
event_seen w a e u = record { number = 0; before = glance_of w; actor = a; event = e; after = glance_of u }

abbrev pub happens_by : Happening → World → ℕ → Option Recorded → World → Bool
happens_by h w a None u = false
happens_by h w a (Some e) u = happens h (event_seen w a e u)

-- IT HAPPENS IN AN EVENT, from one world to another: a record's own event, after its steps
abbrev pub is_happening : Happening → World → ℕ × Event → World → Bool
is_happening h w x u = happens_by h w x.0 (own_record x.1) u
