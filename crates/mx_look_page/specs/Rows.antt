-- THE ROW OF A RECORD (our own): its event, what the trace says of it, and what of the shown world changed.
use Rattle.std.specs.Prelude.{ℕ, ◌-◌, ◌^◌, ◌==◌, ◌&&◌, ◌||◌, nat_lt, not, if◌then◌else◌, Bool, true, false, is_some, List, [], ◌∷◌, ◌++◌, codes, length, take, slice_index, Option, Some, None}
use Rattle.std.specs.List.{flat_map, range_with_len, list_any}
use Rattle.std.specs.Int.{w32, cast_signed}
use Rattle.std.specs.Fmt.{decimal, signed_decimal}
use Rattle.std.specs.Str.{bytes_eq}
use Rattle.mx_image.specs.declared.runs.Stop.{Stop}
use Rattle.mx_image.specs.declared.runs.Stop.TheVariants as stop
use Rattle.mx_machine.specs.declared.history.Recorded.{Recorded}
use Rattle.mx_machine.specs.declared.history.Recorded.TheVariants.{Take, Back, Line, Tick, Kill, Respawn}
use Rattle.mx_proc.specs.declared.deliveries.Delivery.{Delivery}
use Rattle.mx_proc.specs.declared.deliveries.DeliveryKind.{DeliveryKind}
use Rattle.mx_proc.specs.declared.deliveries.DeliveryKind.TheVariants.{Message, Notification}
use Rattle.mx_proc.specs.EndpointNumbers.{slot_of, hardware_endpoint, clock_endpoint}
use Rattle.mx_look.specs.declared.slot_glances.SlotGlance.{SlotGlance}
use Rattle.mx_look.specs.declared.glance.CpuGlance.{CpuGlance}
use Rattle.mx_look.specs.declared.transition.Transition.{Transition}
use Rattle.mx_look.specs.Transition.{slot_in, held_before, held_after, about}
use Rattle.mx_look.specs.Doings.{is_ready}
use Rattle.mx_look.specs.Going.{gone_on}
use Rattle.mx_look.specs.Deliveries.{delivery_to, is_new_bit}
use Rattle.mx_look.specs.Calls.{kernel_call}
use Rattle.mx_look.specs.Trace.{record_text, of_slots}
use Rattle.mx_look_page.specs.declared.shown.SlotState.{SlotState}
use Rattle.mx_look_page.specs.Json.{text, numbered, list_of, member}
use Rattle.mx_look_page.specs.Shown.{ShownWorld, state_in}

-- ---- which record it is

abbrev pub event_number : Recorded → ℕ
event_number Take = 0
event_number (Back n) = 1
event_number (Line l) = 2
event_number Tick = 3
event_number (Kill e) = 4
event_number (Respawn s) = 5

abbrev pub budget_of : Option CpuGlance → ℕ
budget_of None = 0
budget_of (Some h) = h.budget

-- the number that goes with an event: a take's budget, the steps of what comes back, the line, the uptime, the endpoint
-- of who is killed, the slot of what is respawned
abbrev pub event_detail_by : Transition → Recorded → ℕ
event_detail_by x Take = budget_of (held_after x)
event_detail_by x (Back n) = n
event_detail_by x (Line l) = l
event_detail_by x Tick = x.after.uptime
event_detail_by x (Kill e) = e
event_detail_by x (Respawn s) = s

unfoldable pub event_detail : Transition → ℕ
event_detail x = event_detail_by x x.event

abbrev pub subject_part_by : Option ℕ → List ℕ
subject_part_by None = []
subject_part_by (Some s) = member (codes "s") ++ decimal s

unfoldable pub subject_part : Transition → List ℕ
subject_part x = subject_part_by (about x)

-- ---- errors

abbrev pub is_error : Option ℕ → Bool
is_error None = false
is_error (Some r) = not (r == 0)

-- a process has gone on with an error
abbrev pub has_gone_wrong : Transition → ℕ → Bool
has_gone_wrong x s = is_error (gone_on x s)

abbrev pub has_failed_by : SlotGlance → Option (List ℕ) → Bool
has_failed_by u None = false
has_failed_by u (Some reply) = is_ready u.doing && not (slice_index reply 1 == 0)

-- a kernel call's caller goes on with an error in its buffer
abbrev pub has_failed : SlotGlance → Bool
has_failed u = has_failed_by u u.image.words

abbrev pub has_failed_if : Option SlotGlance → Bool
has_failed_if None = false
has_failed_if (Some u) = has_failed u

abbrev pub has_failed_call_by : Transition → Option CpuGlance → Bool
has_failed_call_by x None = false
has_failed_call_by x (Some h) = has_failed_if (slot_in x.after h.slot)

abbrev pub has_failed_call : Transition → Bool
has_failed_call x = has_failed_call_by x (kernel_call x)

abbrev pub is_fault : Stop → Bool
is_fault (stop.Fault v) = true
is_fault _ = false

abbrev pub has_faulted_if : Option CpuGlance → Bool
has_faulted_if None = false
has_faulted_if (Some h) = is_fault h.stop

abbrev pub has_faulted_by : Transition → Recorded → Bool
has_faulted_by x (Back n) = has_faulted_if (held_before x)
has_faulted_by x _ = false

-- a process comes back with a fault
abbrev pub has_faulted : Transition → Bool
has_faulted x = has_faulted_by x x.event

abbrev pub some_go_wrong : Transition → Bool
some_go_wrong x = list_any (has_gone_wrong x) (range_with_len 0 32)

-- an error or a fault came of the record
abbrev pub is_wrong : Transition → Bool
is_wrong x = has_faulted x || (has_failed_call x || some_go_wrong x)

unfoldable pub wrong_part : Transition → List ℕ
wrong_part x = if is_wrong x then codes ",\"x\":1" else []

unfoldable pub event_part : Transition → List ℕ
event_part x =
    codes "{\"a\":" ++ decimal x.actor ++ member (codes "e") ++ decimal (event_number x.event)
    ++ member (codes "n") ++ decimal (event_detail x) ++ subject_part x ++ wrong_part x

-- ---- what the trace says of it, without the last line feed

abbrev pub but_last : List ℕ → List ℕ
but_last t = take (length t - 1) t

unfoldable pub trace_part : Transition → List ℕ
trace_part x = member (codes "t") ++ text (but_last (record_text x))

-- ---- the states that changed

-- a state after a comma, but for its end
unfoldable pub state_items : ℕ → SlotState → List ℕ
state_items s v =
    codes ",[" ++ decimal s ++ numbered v.endpoint ++ numbered v.state
    ++ codes "," ++ signed_decimal (cast_signed w32 v.partner) ++ numbered v.level ++ numbered v.ticks

abbrev pub differs : SlotState → SlotState → Bool
differs v u =
    not (v.endpoint == u.endpoint)
    || (not (v.state == u.state)
    || (not (v.partner == u.partner) || (not (v.level == u.level) || not (v.ticks == u.ticks))))

-- the result with which a process has gone on
unfoldable pub result_part : Option ℕ → List ℕ
result_part None = []
result_part (Some r) = codes "," ++ signed_decimal (cast_signed w32 r)

-- WHAT A ROW SAYS OF A SLOT: its state, if it differs from the one before or the process has gone on
abbrev pub told_state : Option SlotState → Option SlotState → Option ℕ → Option SlotState
told_state (Some v) (Some u) r = if differs v u || is_some r then Some u else None
told_state _ _ r = None

abbrev pub state_text : ℕ → Option ℕ → Option SlotState → List ℕ
state_text s r None = []
state_text s r (Some u) = state_items s u ++ result_part r ++ codes "]"

unfoldable pub state_part : ℕ → Option SlotState → Option SlotState → Option ℕ → List ℕ
state_part s p q r = state_text s r (told_state p q r)

unfoldable pub changed_states : Transition → ShownWorld → ShownWorld → List ℕ
changed_states x p q = of_slots (λ s. state_part s (state_in p s) (state_in q s) (gone_on x s))

-- a member that is a list, if it has an item
unfoldable pub items_part : List ℕ → List ℕ → List ℕ
items_part name [] = []
items_part name (b ∷ items) = member name ++ list_of (b ∷ items)

-- ---- messages and notifications

-- a party: its slot, or -1 for HARDWARE, -2 for SYSTEM, -3 for CLOCK
unfoldable pub party_items : ℕ → List ℕ
party_items e =
    codes "," ++ (if nat_lt e (2 ^ 31) then decimal (slot_of e) else signed_decimal (cast_signed w32 e))

abbrev pub kind_items : DeliveryKind → List ℕ
kind_items Message = codes ",[0"
kind_items Notification = codes ",[1"

-- what a slot got
unfoldable pub delivery_item : ℕ → Option Delivery → List ℕ
delivery_item s None = []
delivery_item s (Some d) =
    kind_items d.kind ++ party_items d.from ++ numbered s ++ numbered d.message_type ++ codes "]"

-- the source that has a place among the pending bits
abbrev pub source_at : ℕ → ℕ
source_at place =
    if place == 0 then hardware_endpoint else if place == 1 then clock_endpoint else place - 2

-- a notification that becomes pending
unfoldable pub kept_item : ℕ → SlotGlance → SlotGlance → ℕ → List ℕ
kept_item s v u place =
    if is_new_bit v u place then codes ",[2" ++ party_items (source_at place) ++ numbered s ++ codes "]" else []

unfoldable pub kept_between : ℕ → SlotGlance → SlotGlance → List ℕ
kept_between s v u = flat_map (kept_item s v u) (range_with_len 0 34)

abbrev pub arrow_items_by : Transition → ℕ → Option SlotGlance → Option SlotGlance → List ℕ
arrow_items_by x s (Some v) (Some u) = delivery_item s (delivery_to x s) ++ kept_between s v u
arrow_items_by x s _ _ = []

-- what comes to a slot
unfoldable pub arrow_items : Transition → ℕ → List ℕ
arrow_items x s = arrow_items_by x s (slot_in x.before s) (slot_in x.after s)

unfoldable pub all_arrows : Transition → List ℕ
all_arrows x = of_slots (arrow_items x)

unfoldable pub changes_part : Transition → ShownWorld → ShownWorld → List ℕ
changes_part x p q = items_part (codes "c") (changed_states x p q) ++ items_part (codes "d") (all_arrows x)

-- ---- queues

abbrev pub order_items : List ℕ → List ℕ
order_items slots = flat_map numbered slots

-- an order of slots, if it isn't as before
unfoldable pub order_part : List ℕ → List ℕ → List ℕ → List ℕ
order_part name p q = if bytes_eq p q then [] else member name ++ list_of (order_items q)

-- ---- the console

abbrev pub byte_part_by : Option ℕ → List ℕ
byte_part_by None = []
byte_part_by (Some b) = member (codes "b") ++ decimal b

unfoldable pub byte_part : Transition → List ℕ
byte_part x = if x.before.written == x.after.written then [] else byte_part_by x.after.last_byte

-- THE ROW, between what is shown before the record and after it
unfoldable pub row_text : Transition → ShownWorld → ShownWorld → List ℕ
row_text x p q =
    event_part x ++ trace_part x ++ changes_part x p q
    ++ order_part (codes "q") p.ready q.ready ++ order_part (codes "w") p.waiting q.waiting
    ++ byte_part x ++ codes "}\n"
