-- WHO IS UNHEARD at the end of a history: it sends to a process that is ready or on a processor, and that one doesn't
-- take its message (our own).
use Rattle.std.specs.Prelude.{ℕ, ◌==◌, ◌&&◌, ◌||◌, not, nat_lt, nat_le, if◌then◌else◌, Bool, true, false, List, [], ◌++◌, codes, count_by, map, Option, Some, None, is_some, slice_index_or}
use Rattle.std.specs.Fmt.{decimal}
use Rattle.std.specs.List.{flat_map, list_any, range_with_len}
use Rattle.mx_print_report.specs.declared.doing.Doing.{Doing}
use Rattle.mx_print_report.specs.declared.doing.Doing.TheVariants.{Sending, Calling}
use Rattle.mx_why.specs.declared.busy.Pace.{Pace}
use Rattle.mx_why.specs.declared.ends.Unfinished.TheVariants.{Running}
use Rattle.mx_why.specs.declared.notes.Deed.{Deed}
use Rattle.mx_why.specs.declared.notes.Deed.TheVariants.{Received, Missed}
use Rattle.mx_why.specs.declared.notes.Note.{Note}
use Rattle.mx_why.specs.declared.seats.End.{End}
use Rattle.mx_why.specs.declared.unheard.Unheard.{Unheard}
use Rattle.mx_why.specs.declared.unheard.Unheard.TheVariants.{Silent, Refused, Computing}
use Rattle.mx_why.specs.Busy.{busy_at, computes_text}
use Rattle.mx_why.specs.Endings.{is_listed}
use Rattle.mx_why.specs.Lines.{left_out_text}
use Rattle.mx_why.specs.Notes.{is_call, since}
use Rattle.mx_why.specs.Reasons.{since_text, slot_text, waiting_text}
use Rattle.mx_why.specs.Seats.{doing_in}

-- ---- to whom

abbrev pub receiver_of : Doing → Option ℕ
receiver_of (Sending q) = Some q
receiver_of (Calling q) = Some q
receiver_of d = None

abbrev pub receiver_if : Option Doing → Option ℕ
receiver_if None = None
receiver_if (Some d) = receiver_of d

-- the slot to which one sends
abbrev pub receiver : End → ℕ → Option ℕ
receiver e s = receiver_if (doing_in e s)

-- ---- what that one has called since then

abbrev pub is_call_after : ℕ → ℕ → Note → Bool
is_call_after q k n = (n.slot == q) && (is_call n.deed && nat_lt k n.number)

-- a call that takes a message, or would, if it isn't refused
abbrev pub is_received : Deed → Bool
is_received Received = true
is_received d = false

abbrev pub is_missed : Deed → Bool
is_missed Missed = true
is_missed d = false

abbrev pub is_received_after : ℕ → ℕ → Note → Bool
is_received_after q k n = (n.slot == q) && (is_received n.deed && nat_lt k n.number)

abbrev pub is_missed_after : ℕ → ℕ → Note → Bool
is_missed_after q k n = (n.slot == q) && (is_missed n.deed && nat_lt k n.number)

-- so many calls since record k, at least 8, none of which takes a message
abbrev pub by_calls : List Note → ℕ → ℕ → ℕ → Option Unheard
by_calls ns q k calls =
    if nat_lt calls 8 || list_any (is_received_after q k) ns then None else
    if list_any (is_missed_after q k) ns then Some Refused else
    Some (Silent calls)

abbrev pub calls_after : List Note → ℕ → ℕ → ℕ
calls_after ns q k = count_by (is_call_after q k) ns

-- it computes since its last call
abbrev pub by_pace : Option Pace → Option Unheard
by_pace None = None
by_pace (Some p) = Some (Computing p.since)

abbrev pub or_by_pace : Option Unheard → Option Pace → Option Unheard
or_by_pace None p = by_pace p
or_by_pace (Some u) p = Some u

-- a process to which one sends since record k, if it is ready or on a processor
abbrev pub unheard_from : End → List Note → ℕ → ℕ → Option Unheard
unheard_from e ns q k =
    if is_listed e Running q then or_by_pace (by_calls ns q k (calls_after ns q k)) (busy_at e ns q) else None

abbrev pub unheard_by : End → List Note → ℕ → Option ℕ → Option Unheard
unheard_by e ns s None = None
unheard_by e ns s (Some q) = unheard_from e ns q (since ns s)

-- A SLOT IS UNHEARD by that which it sends to, since it does: that one has made 8 calls or more, and either has called
-- nothing that takes a message or was refused each time; or it computes without a call
unfoldable pub unheard_at : End → List Note → ℕ → Option Unheard
unheard_at e ns s = unheard_by e ns s (receiver e s)

unfoldable pub unheard : End → List Note → List (Option Unheard)
unheard e ns = map (unheard_at e ns) (range_with_len 0 32)

-- ---- the lines

abbrev pub unheard_in : List (Option Unheard) → ℕ → Option Unheard
unheard_in us s = slice_index_or us s None

abbrev pub is_unheard : List (Option Unheard) → ℕ → Bool
is_unheard us s = is_some (unheard_in us s)

-- it is one of the first 8
abbrev pub is_told : List (Option Unheard) → ℕ → Bool
is_told us s = nat_lt (count_by (is_unheard us) (range_with_len 0 s)) 8

unfoldable pub why_unheard : End → ℕ → Unheard → List ℕ
why_unheard e q (Silent calls) =
    slot_text e q ++ codes " has made " ++ decimal calls ++ codes " calls since, none of them RECEIVE"
why_unheard e q Refused = codes "each RECEIVE of " ++ slot_text e q ++ codes " since is refused"
why_unheard e q (Computing k) = slot_text e q ++ computes_text k ++ codes ", without a call"

abbrev pub why_unheard_by : End → Option ℕ → Unheard → List ℕ
why_unheard_by e None u = []
why_unheard_by e (Some q) u = why_unheard e q u

unfoldable pub unheard_line : End → List Note → ℕ → Unheard → List ℕ
unheard_line e ns s u =
    codes "waits: " ++ waiting_text e s ++ since_text ns s ++ codes ": " ++ why_unheard_by e (receiver e s) u
    ++ codes "\n"

abbrev pub unheard_if : End → List Note → List (Option Unheard) → ℕ → Option Unheard → List ℕ
unheard_if e ns us s None = []
unheard_if e ns us s (Some u) = if is_told us s then unheard_line e ns s u else []

unfoldable pub unheard_line_at : End → List Note → List (Option Unheard) → ℕ → List ℕ
unheard_line_at e ns us s = unheard_if e ns us s (unheard_in us s)

unfoldable pub unheard_lines : End → List Note → List (Option Unheard) → List ℕ
unheard_lines e ns us =
    flat_map (unheard_line_at e ns us) (range_with_len 0 32)
    ++ left_out_text (codes "waits: ") (count_by (is_unheard us) (range_with_len 0 32))
