-- THE LINES of those that wait, and of those that never ran (our own).
use Rattle.std.specs.Prelude.{ℕ, ◌-◌, ◌==◌, ◌&&◌, not, nat_lt, nat_le, if◌then◌else◌, Bool, false, List, [], ◌∷◌, ◌++◌, codes, count_by, Option, Some, None, slice_index_or, unwrap_or}
use Rattle.std.specs.Fmt.{decimal}
use Rattle.std.specs.List.{flat_map, range_with_len, list_any}
use Rattle.mx_print_report.specs.declared.doing.Doing.{Doing}
use Rattle.mx_print_report.specs.Words.{doing_text}
use Rattle.mx_why.specs.declared.notes.Note.{Note}
use Rattle.mx_why.specs.declared.seats.Seat.{Seat}
use Rattle.mx_why.specs.declared.seats.End.{End}
use Rattle.mx_why.specs.declared.verdicts.Verdict.{Verdict}
use Rattle.mx_why.specs.declared.verdicts.Verdict.TheVariants.{Itself, Ring, ForRing, NoLine, NoAlarm, FromSystem, NoSender, NothingComes, AwaitsLine, AwaitsAlarm, MayComeBy}
use Rattle.mx_why.specs.Notes.{has_run}
use Rattle.mx_why.specs.Reasons.{reason_text, since_text, slot_text, waiting_text}
use Rattle.mx_why.specs.Seats.{doing_in, is_slot, owns, seat_in}
use Rattle.mx_why.specs.Verdicts.{is_never}
use Rattle.mx_why.specs.Waiting.{chain, waits_for, waking_alarm, waking_line}

-- how many lines of a kind are left out, if there are more than 8
unfoldable pub left_out_text : List ℕ → ℕ → List ℕ
left_out_text kind n = if nat_le n 8 then [] else kind ++ codes "and " ++ decimal (n - 8) ++ codes " more\n"

-- ---- a verdict

-- those of a chain up to a slot
abbrev pub ring_rest : End → ℕ → List ℕ → List ℕ
ring_rest e s [] = []
ring_rest e s (p ∷ ps) = if p == s then [] else codes ", " ++ waiting_text e p ++ ring_rest e s ps

-- those of a ring, from a slot on
unfoldable pub ring_text : End → ℕ → List ℕ
ring_text e s = codes ": they wait for each other: " ++ waiting_text e s ++ ring_rest e s (chain e s)

unfoldable pub which_ring_text : End → ℕ → ℕ → List ℕ
which_ring_text e q first =
    if is_slot q (waits_for e q) then codes " waits for itself"
    else codes " waits too, in the ring of " ++ slot_text e first

-- it waits for a ring
unfoldable pub for_ring_text : End → ℕ → ℕ → List ℕ
for_ring_text e q first =
    codes ": " ++ slot_text e q ++ which_ring_text e q first

unfoldable pub comma_text : Bool → List ℕ
comma_text later = if later then codes ", " else codes " "

-- a line that a slot owns, after a comma if it owns one before
unfoldable pub line_text : End → ℕ → ℕ → List ℕ
line_text e s l =
    if owns e s l then
    comma_text (list_any (owns e s) (range_with_len 0 l)) ++ decimal l
    else []

unfoldable pub owned_text : End → ℕ → List ℕ
owned_text e s = flat_map (line_text e s) (range_with_len 0 16)

unfoldable pub awaits_line_text : End → ℕ → List ℕ
awaits_line_text e s = codes ": nobody raises its line" ++ owned_text e s

unfoldable pub due_text : End → ℕ → List ℕ
due_text e due = codes ": its alarm is due at uptime " ++ decimal due ++ codes ", which is " ++ decimal e.uptime

unfoldable pub waker_text : Option ℕ → Option ℕ → List ℕ
waker_text (Some l) alarm = codes "line " ++ decimal l
waker_text None (Some due) = codes "an alarm"
waker_text None None = codes "others"

unfoldable pub may_come_text : End → ℕ → List ℕ
may_come_text e last =
    codes ": " ++ waiting_text e last ++ codes ", and may be woken by "
    ++ waker_text (waking_line e last) (waking_alarm e last)

-- a partner that isn't the last waits too
unfoldable pub further_text : End → ℕ → ℕ → List ℕ
further_text e q last = if q == last then [] else codes "; " ++ waiting_text e q

abbrev pub nothing_by : End → List Note → ℕ → ℕ → ℕ → Option Doing → List ℕ
nothing_by e ns s q last None = []
nothing_by e ns s q last (Some d) = codes ": " ++ reason_text e ns s d q ++ further_text e q last

unfoldable pub nothing_text : End → List Note → ℕ → ℕ → ℕ → List ℕ
nothing_text e ns s q last = nothing_by e ns s q last (doing_in e s)

unfoldable pub verdict_text : End → List Note → ℕ → Verdict → List ℕ
verdict_text e ns s Itself = codes ": it waits for itself"
verdict_text e ns s Ring = ring_text e s
verdict_text e ns s (ForRing first) = for_ring_text e (unwrap_or (waits_for e s) s) first
verdict_text e ns s NoLine = codes ", but it owns no line"
verdict_text e ns s NoAlarm = codes ", but it has no alarm"
verdict_text e ns s FromSystem = codes ", which never sends"
verdict_text e ns s NoSender = codes ": nobody may send to it, it owns no line and has no alarm"
verdict_text e ns s (NothingComes last) = nothing_text e ns s (unwrap_or (waits_for e s) s) last
verdict_text e ns s AwaitsLine = awaits_line_text e s
verdict_text e ns s (AwaitsAlarm due) = due_text e due
verdict_text e ns s (MayComeBy last) = may_come_text e last

unfoldable pub wait_line : End → List Note → ℕ → Verdict → List ℕ
wait_line e ns s v = waiting_text e s ++ since_text ns s ++ verdict_text e ns s v ++ codes "\n"

-- ---- those that wait: for ever, or else

abbrev pub kind_of : Bool → List ℕ
kind_of never = if never then codes "never: " else codes "waits: "

abbrev pub is_kind : Bool → Option Verdict → Bool
is_kind never None = false
is_kind never (Some v) = if never then is_never v else not (is_never v)

-- a slot has a line of this kind
abbrev pub is_said : List (Option Verdict) → Bool → ℕ → Bool
is_said vs never s = is_kind never (slice_index_or vs s None)

-- it is one of the first 8
abbrev pub is_told : List (Option Verdict) → Bool → ℕ → Bool
is_told vs never s = is_said vs never s && nat_lt (count_by (is_said vs never) (range_with_len 0 s)) 8

abbrev pub said_line : End → List Note → ℕ → Option Verdict → List ℕ
said_line e ns s None = []
said_line e ns s (Some v) = wait_line e ns s v

unfoldable pub wait_at : End → List Note → List (Option Verdict) → Bool → ℕ → List ℕ
wait_at e ns vs never s =
    if is_told vs never s then kind_of never ++ said_line e ns s (slice_index_or vs s None) else []

unfoldable pub waits_text : End → List Note → List (Option Verdict) → Bool → List ℕ
waits_text e ns vs never =
    flat_map (wait_at e ns vs never) (range_with_len 0 32)
    ++ left_out_text (kind_of never) (count_by (is_said vs never) (range_with_len 0 32))

-- ---- those that never ran

abbrev pub is_idle_by : List Note → ℕ → Option Seat → Bool
is_idle_by ns s None = false
is_idle_by ns s (Some g) = not (has_run ns s)

abbrev pub is_idle : End → List Note → ℕ → Bool
is_idle e ns s = is_idle_by ns s (seat_in e s)

abbrev pub doing_if : Option Doing → List ℕ
doing_if None = []
doing_if (Some d) = doing_text d

unfoldable pub idle_at : End → List Note → ℕ → List ℕ
idle_at e ns s =
    if is_idle e ns s && nat_lt (count_by (is_idle e ns) (range_with_len 0 s)) 8 then
    codes "idle: " ++ slot_text e s ++ codes " never ran: it is " ++ doing_if (doing_in e s) ++ codes "\n"
    else []

unfoldable pub idle_text : End → List Note → List ℕ
idle_text e ns =
    flat_map (idle_at e ns) (range_with_len 0 32)
    ++ left_out_text (codes "idle: ") (count_by (is_idle e ns) (range_with_len 0 32))
