-- WHO COMPUTES WITHOUT A CALL at the end of a history (our own).
use Rattle.std.specs.Prelude.{ℕ, ◌==◌, ◌&&◌, ◌||◌, nat_lt, nat_le, if◌then◌else◌, Bool, true, false, List, [], ◌++◌, codes, count_by, filter, map, Option, Some, None, is_some, slice_index_or}
use Rattle.std.specs.Fmt.{decimal}
use Rattle.std.specs.List.{flat_map, range_with_len}
use Rattle.mx_why.specs.declared.busy.Pace.{Pace}
use Rattle.mx_why.specs.declared.ends.Unfinished.TheVariants.{Running}
use Rattle.mx_why.specs.declared.notes.Deed.{Deed}
use Rattle.mx_why.specs.declared.notes.Deed.TheVariants.{Respawned, Spent}
use Rattle.mx_why.specs.declared.notes.Note.{Note}
use Rattle.mx_why.specs.declared.seats.End.{End}
use Rattle.mx_why.specs.Endings.{is_listed}
use Rattle.mx_why.specs.Lines.{left_out_text}
use Rattle.mx_why.specs.Notes.{is_call, is_died, last_number}
use Rattle.mx_why.specs.Reasons.{slot_text}

-- ---- since when, and how long

-- a call, a death and a new process each begin the count anew
abbrev pub is_start : Deed → Bool
is_start Respawned = true
is_start d = is_call d || is_died d

abbrev pub is_spent : Deed → Bool
is_spent Spent = true
is_spent _ = false

abbrev pub is_start_of : ℕ → Note → Bool
is_start_of s n = (n.slot == s) && is_start n.deed

-- since which record the process of a slot has made no call; 0, if since boot
unfoldable pub computes_since : List Note → ℕ → ℕ
computes_since ns s = last_number (filter (is_start_of s) ns)

abbrev pub is_spent_after : ℕ → ℕ → Note → Bool
is_spent_after s k n = (n.slot == s) && (is_spent n.deed && nat_lt k n.number)

-- how many budgets it has spent since then
unfoldable pub budgets_spent : List Note → ℕ → ℕ
budgets_spent ns s = count_by (is_spent_after s (computes_since ns s)) ns

unfoldable pub pace : List Note → ℕ → Pace
pace ns s = record { since = computes_since ns s; spent = budgets_spent ns s }

-- ---- who

abbrev pub busy_by : Pace → Option Pace
busy_by p = if nat_le 2 p.spent then Some p else None

-- A SLOT IS BUSY: it is ready or on a processor, and has spent two budgets or more
unfoldable pub busy_at : End → List Note → ℕ → Option Pace
busy_at e ns s = if is_listed e Running s then busy_by (pace ns s) else None

unfoldable pub busy : End → List Note → List (Option Pace)
busy e ns = map (busy_at e ns) (range_with_len 0 32)

-- ---- the lines

abbrev pub pace_in : List (Option Pace) → ℕ → Option Pace
pace_in ps s = slice_index_or ps s None

abbrev pub is_busy : List (Option Pace) → ℕ → Bool
is_busy ps s = is_some (pace_in ps s)

-- it is one of the first 8
abbrev pub is_told : List (Option Pace) → ℕ → Bool
is_told ps s = nat_lt (count_by (is_busy ps) (range_with_len 0 s)) 8

abbrev pub computes_text : ℕ → List ℕ
computes_text k = codes " computes since record " ++ decimal k

unfoldable pub pace_line : End → ℕ → Pace → List ℕ
pace_line e s p =
    codes "busy: " ++ slot_text e s ++ computes_text p.since ++ codes ": " ++ decimal p.spent
    ++ codes " budgets are spent without a call\n"

abbrev pub busy_line : End → List (Option Pace) → ℕ → Option Pace → List ℕ
busy_line e ps s None = []
busy_line e ps s (Some p) = if is_told ps s then pace_line e s p else []

unfoldable pub busy_line_at : End → List (Option Pace) → ℕ → List ℕ
busy_line_at e ps s = busy_line e ps s (pace_in ps s)

unfoldable pub busy_lines : End → List (Option Pace) → List ℕ
busy_lines e ps =
    flat_map (busy_line_at e ps) (range_with_len 0 32)
    ++ left_out_text (codes "busy: ") (count_by (is_busy ps) (range_with_len 0 32))
