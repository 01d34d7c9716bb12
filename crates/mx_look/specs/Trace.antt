-- THE TRACE OF A RECORD (our own): its own line, then a line for each thing that came of it. Each line begins with the
-- record's number: one space after it on a record's line, three on the others.
use Rattle.std.specs.Prelude.{ℕ, ◌-◌, ◌==◌, ◌&&◌, nat_lt, if◌then◌else◌, List, [], ◌∷◌, ◌++◌, codes, take, drop, Option, Some, None}
use Rattle.std.specs.List.{flat_map, range_with_len}
use Rattle.std.specs.Fmt.{decimal}
use Rattle.mx_image.specs.declared.runs.Stop.{Stop}
use Rattle.mx_image.specs.declared.runs.Stop.TheVariants as stop
use Rattle.mx_machine.specs.declared.history.Recorded.{Recorded}
use Rattle.mx_machine.specs.declared.history.Recorded.TheVariants.{Take, Back, Line, Tick, Kill, Respawn}
use Rattle.mx_proc.specs.declared.deliveries.Delivery.{Delivery}
use Rattle.mx_proc.specs.EndpointNumbers.{hardware_endpoint, clock_endpoint}
use Rattle.mx_print_report.specs.Numbers.{two_digits}
use Rattle.mx_print_report.specs.Words.{doing_text, kind_word}
use Rattle.mx_look.specs.declared.slot_glances.SlotGlance.{SlotGlance}
use Rattle.mx_look.specs.declared.glance.CpuGlance.{CpuGlance}
use Rattle.mx_look.specs.declared.glance.Glance.{Glance}
use Rattle.mx_look.specs.declared.transition.Transition.{Transition}
use Rattle.mx_look.specs.Transition.{slot_in, held_before, held_after, about}
use Rattle.mx_look.specs.Doings.{is_doomed, is_ready}
use Rattle.mx_look.specs.Going.{gone_on}
use Rattle.mx_look.specs.Deliveries.{delivery_to, is_new_bit}
use Rattle.mx_look.specs.Calls.{kernel_call}
use Rattle.mx_look.specs.Slots.{has_changed, has_rung, is_renewed}
use Rattle.mx_look.specs.FaultLines.{fault_line}
use Rattle.mx_look.specs.Numbers.{margin, spaced_numbers, used_count, result_text}
use Rattle.mx_look.specs.Words.{who, who_of, party_text}
use Rattle.mx_look.specs.Refusals.{refusal_part}
use Rattle.mx_look.specs.KernelCalls.{request_text, answer_text}

-- ---- a record's own line

-- what was recorded, as a saved history has it
abbrev pub event_text : Recorded → List ℕ
event_text Take = codes "take"
event_text (Back n) = codes "back " ++ decimal n
event_text (Line l) = codes "line " ++ decimal l
event_text Tick = codes "tick"
event_text (Kill e) = codes "kill " ++ decimal e
event_text (Respawn s) = codes "respawn " ++ decimal s

-- the name of a trap's call, or nothing
unfoldable pub call_name : ℕ → List ℕ
call_name n =
    if n == 1 then codes "SEND" else if n == 2 then codes "RECEIVE" else
    if n == 3 then codes "SENDREC" else if n == 4 then codes "NOTIFY" else []

-- a name, or another text if there is none
abbrev pub name_or : List ℕ → List ℕ → List ℕ
name_or other [] = other
name_or other name = name

unfoldable pub call_text : ℕ → List ℕ
call_text n = name_or (decimal n) (call_name n)

-- how the steps of a process ended: `early` is before the budget was spent
abbrev pub stop_text_by : Glance → CpuGlance → Stop → List ℕ
stop_text_by g h stop.Spent = if nat_lt h.count h.budget then codes "early" else codes "spent"
stop_text_by g h (stop.Fault v) = codes "fault " ++ decimal v
stop_text_by g h stop.Trap =
    codes "trap " ++ call_text h.image.ecx ++ codes " " ++ party_text g h.image.eax ++ request_text g.rules h

unfoldable pub stop_text : Glance → CpuGlance → List ℕ
stop_text g h = stop_text_by g h h.stop

abbrev pub doom_text_by : Option SlotGlance → List ℕ
doom_text_by None = []
doom_text_by (Some v) = if is_doomed v.doing then codes ", doomed" else []

unfoldable pub doom_text : Glance → ℕ → List ℕ
doom_text g s = doom_text_by (slot_in g s)

abbrev pub return_text_by : Transition → Option CpuGlance → List ℕ
return_text_by x None = []
return_text_by x (Some h) = who x.before h.slot ++ codes " " ++ stop_text x.before h ++ doom_text x.before h.slot

unfoldable pub return_text : Transition → List ℕ
return_text x = return_text_by x (held_before x)

abbrev pub take_text_by : Transition → Option CpuGlance → List ℕ
take_text_by x None = []
take_text_by x (Some h) = who x.after h.slot ++ codes " budget " ++ decimal h.budget

unfoldable pub take_text : Transition → List ℕ
take_text x = take_text_by x (held_after x)

abbrev pub subject_text_by : Glance → Option ℕ → List ℕ
subject_text_by g None = []
subject_text_by g (Some s) = who g s

unfoldable pub subject_text : Transition → Glance → List ℕ
subject_text x g = subject_text_by g (about x)

-- of a respawn the new process
abbrev pub about_text_by : Transition → Recorded → List ℕ
about_text_by x Take = take_text x
about_text_by x (Back n) = return_text x
about_text_by x (Line l) = subject_text x x.before
about_text_by x Tick = codes "uptime " ++ decimal x.after.uptime
about_text_by x (Kill e) = subject_text x x.before
about_text_by x (Respawn s) = subject_text x x.after

unfoldable pub about_text : Transition → List ℕ
about_text x = about_text_by x x.event

unfoldable pub head_line : Transition → List ℕ
head_line x =
    decimal x.number ++ codes " " ++ decimal x.actor ++ codes " " ++ event_text x.event ++ codes ": " ++ about_text x
    ++ codes "\n"

-- ---- what came of it

-- a kernel call's caller that goes on has its answer in its buffer
abbrev pub answered_by : Transition → SlotGlance → Option (List ℕ) → Option (List ℕ) → List ℕ
answered_by x u (Some request) (Some reply) =
    if is_ready u.doing then margin x ++ answer_text x.after request reply ++ codes "\n" else []
answered_by x u _ _ = []

unfoldable pub answered : Transition → CpuGlance → SlotGlance → List ℕ
answered x h u = answered_by x u h.image.words u.image.words

abbrev pub answered_if : Transition → CpuGlance → Option SlotGlance → List ℕ
answered_if x h None = []
answered_if x h (Some u) = answered x h u

abbrev pub answer_line_by : Transition → Option CpuGlance → List ℕ
answer_line_by x None = []
answer_line_by x (Some h) = answered_if x h (slot_in x.after h.slot)

unfoldable pub answer_line : Transition → List ℕ
answer_line x = answer_line_by x (kernel_call x)

unfoldable pub byte_text : ℕ → List ℕ
byte_text b = codes "0x" ++ two_digits b

-- a byte, and its character from ! to ~
unfoldable pub console_text : ℕ → List ℕ
console_text b =
    codes "console " ++ byte_text b ++ (if nat_lt 32 b && nat_lt b 127 then codes " '" ++ b ∷ codes "'" else [])

abbrev pub console_line_by : Transition → Option ℕ → List ℕ
console_line_by x None = []
console_line_by x (Some b) = margin x ++ console_text b ++ codes "\n"

unfoldable pub console_line : Transition → List ℕ
console_line x = if x.before.written == x.after.written then [] else console_line_by x x.after.last_byte

unfoldable pub alarm_line : Transition → ℕ → List ℕ
alarm_line x s = if has_rung x s then margin x ++ codes "alarm " ++ who x.after s ++ codes "\n" else []

-- numbers without the zeros at the end, if any is left
unfoldable pub told_words : List ℕ → List ℕ
told_words xs = if used_count xs == 0 then [] else codes " words" ++ spaced_numbers (take (used_count xs) xs)

-- the words after source and type
abbrev pub told_words_of : Option (List ℕ) → List ℕ
told_words_of None = []
told_words_of (Some message) = told_words (drop 2 message)

abbrev pub delivered_words_by : Option SlotGlance → List ℕ
delivered_words_by None = []
delivered_words_by (Some u) = told_words_of u.image.words

-- those that came to a slot
unfoldable pub delivered_words : Option SlotGlance → List ℕ
delivered_words seen = delivered_words_by seen

-- what was delivered, from whom and to whom
unfoldable pub delivery_parties : Transition → Delivery → List ℕ
delivery_parties x d =
    kind_word d.kind ++ codes " " ++ party_text x.after d.from ++ codes " to " ++ party_text x.after d.to

abbrev pub delivery_line_by : Transition → ℕ → Option Delivery → List ℕ
delivery_line_by x s None = []
delivery_line_by x s (Some d) =
    margin x ++ delivery_parties x d
    ++ codes " type " ++ decimal d.message_type ++ delivered_words (slot_in x.after s) ++ codes "\n"

unfoldable pub delivery_line : Transition → ℕ → List ℕ
delivery_line x s = delivery_line_by x s (delivery_to x s)

-- the source that has a place among the pending bits
unfoldable pub source_text : Glance → ℕ → List ℕ
source_text g place =
    if place == 0 then party_text g hardware_endpoint else if place == 1 then party_text g clock_endpoint
    else who g (place - 2)

unfoldable pub kept_line : Transition → SlotGlance → SlotGlance → ℕ → List ℕ
kept_line x v u place =
    if is_new_bit v u place then margin x ++ codes "notify " ++ source_text x.after place ++ codes " to " ++ who_of u
    ++ codes ", pending\n"
    else []

unfoldable pub kept_between : Transition → SlotGlance → SlotGlance → List ℕ
kept_between x v u = flat_map (kept_line x v u) (range_with_len 0 34)

abbrev pub kept_lines_by : Transition → Option SlotGlance → Option SlotGlance → List ℕ
kept_lines_by x (Some v) (Some u) = kept_between x v u
kept_lines_by x _ _ = []

unfoldable pub kept_lines : Transition → ℕ → List ℕ
kept_lines x s = kept_lines_by x (slot_in x.before s) (slot_in x.after s)

abbrev pub result_part_by : Transition → ℕ → Option ℕ → List ℕ
result_part_by x s None = []
result_part_by x s (Some r) = codes ", result " ++ result_text r ++ refusal_part x s r

unfoldable pub result_part : Transition → ℕ → List ℕ
result_part x s = result_part_by x s (gone_on x s)

unfoldable pub changed : Transition → ℕ → SlotGlance → SlotGlance → List ℕ
changed x s v u =
    margin x ++ who_of u ++ codes ": " ++ doing_text v.doing ++ codes " -> " ++ doing_text u.doing ++ result_part x s
    ++ codes "\n"

abbrev pub changed_if : Transition → ℕ → Option SlotGlance → Option SlotGlance → List ℕ
changed_if x s (Some v) (Some u) = changed x s v u
changed_if x s _ _ = []

unfoldable pub change_line : Transition → ℕ → List ℕ
change_line x s = if has_changed x s then changed_if x s (slot_in x.before s) (slot_in x.after s) else []

abbrev pub new_quantum : Transition → Option SlotGlance → List ℕ
new_quantum x None = []
new_quantum x (Some u) =
    margin x ++ who_of u ++ codes ": quantum " ++ decimal u.ticks ++ codes " at level " ++ decimal u.level ++ codes "\n"

unfoldable pub quantum_line : Transition → ℕ → List ℕ
quantum_line x s = if is_renewed x s then new_quantum x (slot_in x.after s) else []

-- ---- all of it: several of a kind in slot order, a slot's change before its quantum

abbrev pub of_slots : (ℕ → List ℕ) → List ℕ
of_slots f = flat_map f (range_with_len 0 32)

unfoldable pub alarm_lines : Transition → List ℕ
alarm_lines x = of_slots (alarm_line x)

unfoldable pub delivery_lines : Transition → List ℕ
delivery_lines x = of_slots (delivery_line x)

unfoldable pub all_kept_lines : Transition → List ℕ
all_kept_lines x = of_slots (kept_lines x)

unfoldable pub change_lines : Transition → List ℕ
change_lines x = of_slots (λ s. change_line x s ++ quantum_line x s)

unfoldable pub record_text : Transition → List ℕ
record_text x =
    head_line x ++ fault_line x ++ answer_line x ++ console_line x ++ alarm_lines x ++ delivery_lines x
    ++ all_kept_lines x ++ change_lines x
