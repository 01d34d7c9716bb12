-- WHAT IS TOLD AFTER A RUN: how it ended, and the first line with a mark (our own).
use Rattle.std.specs.Prelude.{◌≡◌, ◌⊎◌, ℕ, ◌-◌, ◌==◌, ◌&&◌, ◌||◌, not, nat_le, nat_lt, if◌then◌else◌, Bool, true, false, List, [], ◌++◌, codes, count_by, length, position, take, Option, Some, None, slice_get}
use Rattle.std.specs.Fmt.{decimal}
use Rattle.std.specs.List.{flat_map, sum_by}
use Rattle.mx_app_step.specs.Records.{IsRefusedAt}
use Rattle.mx_machine.specs.declared.config.Config.{Config}
use Rattle.mx_machine.specs.declared.events.Refusal.{Refusal}
use Rattle.mx_machine.specs.declared.history.Record.{Record}
use Rattle.mx_machine.specs.declared.history.Recorded.{Recorded}
use Rattle.mx_machine.specs.declared.history.Recorded.TheVariants as recorded
use Rattle.mx_machine.specs.History.{AreAccepted, events_of_history}
use Rattle.mx_machine.specs.World.{World}
use Rattle.mx_turns.specs.declared.outside.OutsideLine.{OutsideLine}
use Rattle.mx_why.specs.declared.after_run.AfterRun.{AfterRun}
use Rattle.mx_why.specs.declared.after_run.AfterRun.TheVariants as after
use Rattle.mx_why.specs.declared.deaths.Death.{Death}
use Rattle.mx_why.specs.declared.failed_calls.FailedCall.{FailedCall}
use Rattle.mx_why.specs.declared.notes.Note.{Note}
use Rattle.mx_why.specs.declared.outside.LostLine.{LostLine}
use Rattle.mx_why.specs.declared.seats.End.{End}
use Rattle.mx_why.specs.Begun.{FileNames}
use Rattle.mx_why.specs.Busy.{busy, busy_lines}
use Rattle.mx_why.specs.Deaths.{deaths}
use Rattle.mx_why.specs.Endings.{death_text, ending, ending_by}
use Rattle.mx_why.specs.FailedCalls.{failed_calls}
use Rattle.mx_why.specs.FailedLines.{failed_line}
use Rattle.mx_why.specs.Lines.{idle_text, waits_text}
use Rattle.mx_why.specs.Marks.{is_faulted, is_marked}
use Rattle.mx_why.specs.Noting.{notes_of_records}
use Rattle.mx_why.specs.Outside.{lost_lines, outside_text}
use Rattle.mx_why.specs.Readings.{is_careless}
use Rattle.mx_why.specs.Telling.{end_after}
use Rattle.mx_why.specs.Unfit.{unfit}
use Rattle.mx_why.specs.UnfitLines.{unfit_lines}
use Rattle.mx_why.specs.Unheard.{unheard, unheard_lines}
use Rattle.mx_why.specs.Verdicts.{verdicts}

-- ---- the lines with a mark, but for the first

abbrev pub is_fault_note : Option Note → Bool
is_fault_note None = false
is_fault_note (Some n) = is_faulted n.deed

-- deaths are by a fault
abbrev pub is_fault : List Note → Death → Bool
is_fault ns d = is_fault_note (slice_get ns d.note)

abbrev pub fault_line : End → List Note → Death → List ℕ
fault_line e ns d = if is_fault ns d then death_text e ns d else []

unfoldable pub fault_lines : End → List Note → List ℕ
fault_lines e ns = flat_map (fault_line e ns) (deaths ns)

abbrev pub careless_line : Config → End → FailedCall → List ℕ
careless_line c e f = if is_careless f then failed_line c e f else []

abbrev pub careless_lines : Config → End → List FailedCall → List ℕ
careless_lines c e cs = flat_map (careless_line c e) cs

unfoldable pub idle_if_at_rest : End → List Note → List ℕ
idle_if_at_rest e ns = if e.at_rest then idle_text e ns else []

unfoldable pub marked_lines : Config → End → List Note → List FailedCall → List LostLine → List ℕ
marked_lines c e ns cs os =
    waits_text e ns (verdicts e) true ++ unheard_lines e ns (unheard e ns) ++ busy_lines e (busy e ns)
    ++ fault_lines e ns ++ careless_lines c e cs ++ outside_text e os ++ idle_if_at_rest e ns ++ unfit_lines c (unfit c e)

-- of a machine that has done nothing there are none
unfoldable pub marked_if_any : Config → End → List Note → List FailedCall → List LostLine → ℕ → List ℕ
marked_if_any c e ns cs os n = if n == 0 then [] else marked_lines c e ns cs os

-- ---- the line

abbrev pub up_to : List ℕ → Option ℕ → List ℕ
up_to text None = text
up_to text (Some i) = take i text

-- the first line of a text, without its end
abbrev pub first_line : List ℕ → List ℕ
first_line text = up_to text (position (λ b. b == 10) text)

-- the file of outside events, if one is named
abbrev pub events_word : Option (List ℕ) → List ℕ
events_word None = []
events_word (Some name) = codes " --events " ++ name

-- the words that show all
unfoldable pub command_text : FileNames → List ℕ
command_text f = codes " more: mx why " ++ f.config ++ codes " " ++ f.log ++ events_word f.events

-- how many lines more than one there are, and how to see them
unfoldable pub more_text : ℕ → FileNames → List ℕ
more_text k f = if nat_le k 1 then [] else codes "; " ++ decimal (k - 1) ++ command_text f

unfoldable pub told_marks : List ℕ → FileNames → List ℕ
told_marks lines f =
    if length lines == 0 then [] else
    codes "; " ++ first_line lines ++ more_text (count_by (λ b. b == 10) lines) f

-- by the lines with a mark, of a history of n records
unfoldable pub line_after : Config → End → List ℕ → ℕ → FileNames → List ℕ
line_after c e lines n f =
    codes "mx: " ++ ending_by e n c.log (ending e n c.log) ++ told_marks lines f ++ codes "\n"

-- WHAT IS TOLD OF A HISTORY of n records: nothing, if it has no mark
unfoldable pub line_if_marked : Config → End → List Note → List FailedCall → List LostLine → ℕ → FileNames → Option (List ℕ)
line_if_marked c e ns cs os n f =
    if is_marked c e ns cs os n then Some (line_after c e (marked_if_any c e ns cs os n) n f) else None

-- of these records, and of a file of outside events whose lines say this
abbrev pub line_told : Config → End → List Note → List FailedCall → List Record → List (Option OutsideLine) → FileNames → Option (List ℕ)
line_told c e ns cs records said f = line_if_marked c e ns cs (lost_lines c e records said) (length records) f

-- WHAT IS TOLD OF RECORDS, by the names of their files: of a history of which one is refused nothing
abbrev pub IsToldOf : World → List Record → Config → List (Option OutsideLine) → FileNames → Option (List ℕ) → Type 0
IsToldOf w records c said f line =
    (AreAccepted w (events_of_history records) × (line ≡ line_told c (end_after w records) (notes_of_records w records) (failed_calls w records) records said f))
    ⊎ ((n : ℕ) × (r : Refusal) × IsRefusedAt w records n r × (line ≡ None))

-- ---- histories that aren't run again unasked

-- the steps that a record brings back
abbrev pub steps_of : Recorded → ℕ
steps_of (recorded.Back n) = n
steps_of r = 0

-- so many records, or records of so many steps, that it takes long to make them again
abbrev pub are_many : List Record → Bool
are_many records = nat_lt 20000 (length records) || nat_lt 10000000 (sum_by (λ (x : Record). steps_of x.event) records)

-- WHAT IS TOLD OF A HISTORY: of many records nothing is known, unless all are to be made
abbrev pub IsToldWithin : Bool → World → List Record → Config → List (Option OutsideLine) → FileNames → AfterRun → Type 0
IsToldWithin all w records c said f after.Unknown = (not all && are_many records) ≡ true
IsToldWithin all w records c said f after.Nothing =
    ((not all && are_many records) ≡ false) × IsToldOf w records c said f None
IsToldWithin all w records c said f (after.Line line) =
    ((not all && are_many records) ≡ false) × IsToldOf w records c said f (Some line.items)
