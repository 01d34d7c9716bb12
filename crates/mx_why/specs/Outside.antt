-- WHICH OUTSIDE EVENTS of a file have no record in the history that was made with it, and so were refused (our own). The
-- lines of the file are made in order, and so their records are: each line is that of the next record that is left, or
-- it has none. Two lines that are alike can't be told apart, so it is the later one of them that has none.
use Rattle.std.specs.Prelude.{ℕ, ◌+◌, ◌-◌, ◌==◌, ◌&&◌, ◌||◌, not, nat_le, nat_lt, if◌then◌else◌, Bool, true, false, List, [], ◌∷◌, ◌++◌, codes, count_by, filter, length, Option, Some, None, slice_get}
use Rattle.std.specs.Fmt.{decimal}
use Rattle.std.specs.List.{list_any}
use Rattle.mx_machine.specs.declared.config.Config.{Config}
use Rattle.mx_machine.specs.declared.events.Event.TheVariants as events
use Rattle.mx_machine.specs.declared.history.Record.{Record}
use Rattle.mx_machine.specs.declared.history.Recorded.{Recorded}
use Rattle.mx_machine.specs.declared.history.Recorded.TheVariants as recorded
use Rattle.mx_proc.specs.EndpointNumbers.{slot_of}
use Rattle.mx_turns.specs.declared.outside.OutsideLine.{OutsideLine}
use Rattle.mx_turns.specs.declared.outside.OutsideLine.TheVariants.{Plain, KillSlot}
use Rattle.mx_why.specs.declared.outside.LostLine.{LostLine}
use Rattle.mx_why.specs.declared.seats.End.{End}
use Rattle.mx_why.specs.Reasons.{slot_text}

-- ---- the records of the file's lines

abbrev pub is_sought : Recorded → Bool
is_sought (recorded.Line l) = true
is_sought recorded.Tick = true
is_sought (recorded.Kill e) = true
is_sought r = false

-- an actor past the first one that is no processor makes a record
abbrev pub has_caller : ℕ → List Record → Bool
has_caller cpus records = list_any (λ (x : Record). nat_lt cpus x.actor) records

-- a record is of a line: of a run's file, whose lines such an actor makes, the first one making the ticks that are asked
-- for; else of the turns' file, whose lines the first one makes
abbrev pub is_of_file : ℕ → Bool → Record → Bool
is_of_file cpus called x = (if called then nat_lt cpus x.actor else x.actor == cpus) && is_sought x.event

unfoldable pub records_of_file : ℕ → List Record → List Record
records_of_file cpus records = filter (is_of_file cpus (has_caller cpus records)) records

-- ---- the lines without a record

-- a record is that of an event: of the process that a slot has then, by the slot
abbrev pub is_record_of : OutsideLine → Recorded → Bool
is_record_of (Plain (events.Line l)) (recorded.Line m) = l == m
is_record_of (Plain events.Tick) recorded.Tick = true
is_record_of (Plain (events.Kill e)) (recorded.Kill f) = e == f
is_record_of (KillSlot s) (recorded.Kill f) = slot_of f == s
is_record_of l r = false

abbrev pub is_made : OutsideLine → Option Record → Bool
is_made l None = false
is_made l (Some x) = is_record_of l x.event

-- ---- the lines that were tried

abbrev pub is_back : Recorded → Bool
is_back (recorded.Back n) = true
is_back r = false

abbrev pub is_first_back : Record → Bool
is_first_back x = (x.actor == 0) && is_back x.event

-- as many turns, at least, tried a line: processor 0 comes back once in a turn at most. The last turn tries none if its
-- history has no room for a take, which is of two records
abbrev pub turns_with_line : Config → List Record → ℕ
turns_with_line c records =
    count_by is_first_back records - (if nat_le 2 (c.log - length records) then 0 else 1)

-- so many lines, at least, were tried of a file that has n: not at rest it may be none, as the history may have ended
-- before the first; turns may have been too few for all, and each tries one; a run tries all, but for those after one that
-- is refused since the history is full
unfoldable pub tried_lines : Config → End → List Record → ℕ → ℕ
tried_lines c e records n =
    if not e.at_rest then 0 else
    if not (has_caller c.cpus records) then turns_with_line c records else
    if nat_lt (length records) c.log then n else 0

-- a line without a record
abbrev pub lost_if : Bool → ℕ → OutsideLine → List LostLine
lost_if refused n l = if refused then record { number = n; line = l } ∷ [] else []

-- a line, which has number n, after k of the records are found: it was tried, or a later one was
abbrev pub lost_by : ℕ → List Record → ℕ → ℕ → Option OutsideLine → List LostLine
lost_by tried xs n k None = []
lost_by tried xs n k (Some l) =
    if is_made l (slice_get xs k) then [] else lost_if (nat_le n tried || nat_lt k (length xs)) n l

-- how many are found after it
abbrev pub found_after : List Record → ℕ → Option OutsideLine → ℕ
found_after xs k None = k
found_after xs k (Some l) = if is_made l (slice_get xs k) then k + 1 else k

-- the lines from number n on
abbrev pub lost_from : ℕ → List Record → ℕ → ℕ → List (Option OutsideLine) → List LostLine
lost_from tried xs n k [] = []
lost_from tried xs n k (o ∷ os) = lost_by tried xs n k o ++ lost_from tried xs (n + 1) (found_after xs k o) os

-- THE LINES THAT WERE REFUSED, of a file whose lines say this
unfoldable pub lost_lines : Config → End → List Record → List (Option OutsideLine) → List LostLine
lost_lines c e records said =
    lost_from (tried_lines c e records (length said)) (records_of_file c.cpus records) 1 0 said

abbrev pub has_lost : List LostLine → Bool
has_lost ls = not (length ls == 0)

-- ---- in words

abbrev pub event_text : End → OutsideLine → List ℕ
event_text e (Plain (events.Line l)) = codes "line " ++ decimal l
event_text e (Plain (events.Kill f)) = codes "kill " ++ decimal f
event_text e (KillSlot s) = codes "kill " ++ slot_text e s
event_text e l = codes "tick"

unfoldable pub more_lost_text : ℕ → List ℕ
more_lost_text n = if n == 0 then [] else codes "; and " ++ decimal n ++ codes " lines more"

unfoldable pub lost_text : End → LostLine → ℕ → List ℕ
lost_text e l n =
    codes "outside: EVENTS line " ++ decimal l.number ++ codes " (" ++ event_text e l.line
    ++ codes ") has no record, so it was refused" ++ more_lost_text n ++ codes "\n"

-- THE LINE of those that were refused: the first, and how many more there are
abbrev pub outside_text : End → List LostLine → List ℕ
outside_text e [] = []
outside_text e (l ∷ ls) = lost_text e l (length ls)
