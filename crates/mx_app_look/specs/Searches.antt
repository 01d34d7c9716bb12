-- Where searches halt (our own).
use Rattle.std.specs.Prelude.{◌≡◌, ◌⊎◌, ℕ, Bool, true, false, List, [], codes, Option, Some, None, if◌then◌else◌, slice_get}
use Rattle.mx_machine.specs.declared.events.Event.{Event}
use Rattle.mx_walk.specs.declared.positions.Position.{Position}
use Rattle.mx_walk.specs.Positions.{IsPosition, IsUpTo, next_event, first, is_up_to, next_position, position_before, world_at}
use Rattle.mx_walk.specs.Seeking.{IsFirstMarked, IsLastMarked, IsPassed, is_marked}
use Rattle.mx_walk.specs.Walks.{Walk, world_here}
use Rattle.mx_app_look.specs.declared.points.Points.{Points}
use Rattle.mx_app_look.specs.declared.happening.Happening.{Happening}
use Rattle.mx_app_look.specs.Before.{why_by}
use Rattle.mx_app_look.specs.Changes.{change_text}
use Rattle.mx_app_look.specs.Happenings.{is_happening}
use Rattle.mx_app_look.specs.Marks.{changes_watched, is_looked_for, leaves_breakpoint}

-- what is printed if a search meets nothing
abbrev pub not_met : List ℕ
not_met = codes "not met\n"

-- how the watched bytes change from one position to another
abbrev pub changes_from : Walk → Points → Position → Position → List ℕ
changes_from k s p q = change_text s (world_at k.boot k.records p) (world_at k.boot k.records q)

-- the event after a position is the step at a breakpoint
abbrev pub is_break : Walk → Points → Position → Option (ℕ × Event) → Bool
is_break k s p None = false
is_break k s p (Some x) = leaves_breakpoint s (world_at k.boot k.records p) x (world_at k.boot k.records p)

-- THE HALT of a search that goes on and meets the event from p to q: before it, if it is the step at a breakpoint; else
-- after it, and how bytes changed is printed
abbrev pub halt_by : Walk → Points → Position → Position → Position × List ℕ
halt_by k s p q = if is_break k s p (next_event k.records p) then (p, []) else (q, changes_from k s p q)

-- a search from a position on halts so: at the first event that is looked for, or at the last position
abbrev pub IsHalt : Walk → Points → Position → Position × List ℕ → Type 0
IsHalt k s from h =
    ((q : Position) × IsPosition k.records q × IsUpTo q k.last × IsFirstMarked (is_looked_for s) k.boot k.records from q
    × (h ≡ halt_by k s (position_before k.records q) q))
    ⊎ (IsPassed (is_looked_for s) k.boot k.records from k.last × (h ≡ (k.last, not_met)))

-- after the first event, which leads to p, whether it changed watched bytes
abbrev pub IsHaltAfter : Walk → Points → Position → Bool → Position × List ℕ → Type 0
IsHaltAfter k s p true h = h ≡ (p, changes_from k s k.here p)
IsHaltAfter k s p false h = IsHalt k s p h

abbrev pub IsHaltBy : Walk → Points → Option (ℕ × Event) → Position × List ℕ → Type 0
IsHaltBy k s None h = h ≡ (k.here, not_met)
IsHaltBy k s (Some x) h =
    IsHaltAfter k s (next_position k.records k.here) (is_marked (changes_watched s) (world_here k) x) h

-- the event that can be made here
abbrev pub next_made : Walk → Option (ℕ × Event)
next_made k = if is_up_to k.last k.here then None else next_event k.records k.here

-- ON: where it halts, and what is printed. The first event leaves the place where one is: of it the bytes count, and no
-- breakpoint
abbrev pub IsNextHalt : Walk → Points → Position × List ℕ → Type 0
IsNextHalt k s h = IsHaltBy k s (next_made k) h

-- BACK: right before the last event that is looked for, or at the first position
abbrev pub IsLastHalt : Walk → Points → Position × List ℕ → Type 0
IsLastHalt k s h =
    ((p : Position) × IsPosition k.records p × IsLastMarked (is_looked_for s) k.boot k.records p k.here
    × (h ≡ (p, changes_from k s p (next_position k.records p))))
    ⊎ (IsPassed (is_looked_for s) k.boot k.records first k.here × (h ≡ (first, not_met)))

-- ---- something that happens

-- what the record does whose own event is right after a position
abbrev pub record_after : Walk → Position → List ℕ
record_after k p = why_by k p.records (slice_get k.records p.records)

-- UNTIL BACK: right before the last event in which it happens, with what that record does; or at the first position.
-- So what is seen there is what it happened to; and one more such search goes to the one before
abbrev pub IsLastHappened : Walk → Happening → Position × List ℕ → Type 0
IsLastHappened k h at =
    ((p : Position) × IsPosition k.records p × IsLastMarked (is_happening h) k.boot k.records p k.here
    × (at ≡ (p, record_after k p)))
    ⊎ (IsPassed (is_happening h) k.boot k.records first k.here × (at ≡ (first, not_met)))
