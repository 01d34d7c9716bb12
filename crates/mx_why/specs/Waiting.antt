-- WHO WAITS FOR WHOM, and who may go on by a line or an alarm (our own). At rest nobody runs until a line or an alarm
-- makes one go on; it may send to others, and take the messages or end the waits of those that wait for it; and these
-- may do so then. So who isn't reached from there doesn't go on, unless a process is killed.
use Rattle.std.specs.Prelude.{ℕ, zero, suc, ◌&&◌, ◌||◌, nat_lt, if◌then◌else◌, Bool, true, false, List, [], ◌∷◌, map, Option, Some, None, is_some, slice_index_or}
use Rattle.std.specs.List.{range_with_len, list_any}
use Rattle.mx_word.specs.Bits.{has_bit}
use Rattle.mx_print_report.specs.declared.doing.Awaited.{Awaited}
use Rattle.mx_print_report.specs.declared.doing.Awaited.TheVariants as awaited
use Rattle.mx_print_report.specs.declared.doing.Doing.{Doing}
use Rattle.mx_print_report.specs.declared.doing.Doing.TheVariants.{Sending, Calling, Receiving, Awaiting}
use Rattle.mx_why.specs.declared.seats.Seat.{Seat}
use Rattle.mx_why.specs.declared.seats.End.{End}
use Rattle.mx_why.specs.Seats.{seat_in, doing_in, first_line, is_slot}

-- ---- who waits for whom

abbrev pub awaited_slot : Awaited → Option ℕ
awaited_slot (awaited.Process s) = Some s
awaited_slot _ = None

-- the slot of whose process one waits that does this
abbrev pub partner_of : Doing → Option ℕ
partner_of (Sending s) = Some s
partner_of (Calling s) = Some s
partner_of (Awaiting s) = Some s
partner_of (Receiving p) = awaited_slot p
partner_of _ = None

abbrev pub partner_if : Option Doing → Option ℕ
partner_if None = None
partner_if (Some d) = partner_of d

-- A SLOT WAITS FOR another, or for itself
abbrev pub waits_for : End → ℕ → Option ℕ
waits_for e s = partner_if (doing_in e s)

abbrev pub and_on : Option ℕ → (ℕ → List ℕ) → List ℕ
and_on None rest = []
and_on (Some s) rest = s ∷ rest s

-- from a slot on: for whom it waits, for whom that one waits, and so on, at most n of them
abbrev pub chain_of : ℕ → End → ℕ → List ℕ
chain_of zero e s = []
chain_of (suc n) e s = and_on (waits_for e s) (chain_of n e)

-- THE CHAIN: of 32 slots, if it closes, as there are no more different ones
unfoldable pub chain : End → ℕ → List ℕ
chain e s = chain_of 32 e s

-- ---- what may come from outside

abbrev pub by_lines : Awaited → Bool
by_lines awaited.Any = true
by_lines awaited.Hardware = true
by_lines _ = false

abbrev pub by_alarms : Awaited → Bool
by_alarms awaited.Any = true
by_alarms awaited.Clock = true
by_alarms _ = false

-- a process that does this goes on by a line that is raised; by its alarm
abbrev pub takes_lines : Doing → Bool
takes_lines (Receiving p) = by_lines p
takes_lines _ = false

abbrev pub takes_alarms : Doing → Bool
takes_alarms (Receiving p) = by_alarms p
takes_alarms _ = false

-- the first line by which the process of a slot may go on
abbrev pub line_for : End → ℕ → Option Seat → Option ℕ
line_for e s None = None
line_for e s (Some g) = if takes_lines g.doing then first_line e s else None

abbrev pub waking_line : End → ℕ → Option ℕ
waking_line e s = line_for e s (seat_in e s)

-- the uptime at which it goes on by its alarm
abbrev pub alarm_for : Option Seat → Option ℕ
alarm_for None = None
alarm_for (Some g) = if takes_alarms g.doing then g.alarm else None

abbrev pub waking_alarm : End → ℕ → Option ℕ
waking_alarm e s = alarm_for (seat_in e s)

abbrev pub wakes_from_outside : End → ℕ → Bool
wakes_from_outside e s = is_some (waking_line e s) || is_some (waking_alarm e s)

-- ---- what may come from others

-- SEND, RECEIVE, SENDREC and NOTIFY are 1 to 4
abbrev pub may_trap : Seat → ℕ → Bool
may_trap g trap = nat_lt trap 32 && has_bit g.traps trap

abbrev pub may_name : Seat → ℕ → Bool
may_name g s = nat_lt s 32 && has_bit g.sends s

abbrev pub may_send_by : Option Seat → ℕ → Bool
may_send_by None s = false
may_send_by (Some g) s = may_name g s && (may_trap g 1 || may_trap g 3 || may_trap g 4)

-- a slot may send to another, or notify it
abbrev pub may_send : End → ℕ → ℕ → Bool
may_send e from to = may_send_by (seat_in e from) to

-- a process that goes on may make another go on: it may send to it, or that one waits for it
abbrev pub may_wake : End → ℕ → ℕ → Bool
may_wake e from to = may_send e from to || is_slot from (waits_for e to)

-- a slot is one of those
abbrev pub is_among : List Bool → ℕ → Bool
is_among reached s = slice_index_or reached s false

-- of those that may go on, one may make this one go on
abbrev pub is_next : End → List Bool → ℕ → Bool
is_next e reached s = list_any (λ from. is_among reached from && may_wake e from s) (range_with_len 0 32)

unfoldable pub first_reached : End → List Bool
first_reached e = map (wakes_from_outside e) (range_with_len 0 32)

abbrev pub is_reached : End → List Bool → ℕ → Bool
is_reached e reached s = is_among reached s || is_next e reached s

unfoldable pub next_reached : End → List Bool → List Bool
next_reached e reached = map (is_reached e reached) (range_with_len 0 32)

-- who may go on by a line or an alarm, over at most n others
abbrev pub reached_within : ℕ → End → List Bool
reached_within zero e = first_reached e
reached_within (suc n) e = next_reached e (reached_within n e)

-- WHO MAY GO ON by a line or an alarm
unfoldable pub reached : End → List Bool
reached e = reached_within 32 e
