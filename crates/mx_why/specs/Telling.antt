-- WHAT IS TOLD of a saved history (our own).
use Rattle.std.specs.Prelude.{◌≡◌, ℕ, ◌==◌, if◌then◌else◌, Bool, true, false, List, [], ◌++◌, length, Option, Some, None}
use Rattle.mx_app_start.specs.Failure.{PrintsFront}
use Rattle.mx_app_step.specs.Records.{IsRefusedAt}
use Rattle.mx_machine.specs.declared.config.Config.{Config}
use Rattle.mx_machine.specs.declared.events.Refusal.{Refusal}
use Rattle.mx_machine.specs.declared.history.Record.{Record}
use Rattle.mx_machine.specs.History.{AreAccepted, world_after_events, events_of_history}
use Rattle.mx_machine.specs.World.{World}
use Rattle.mx_turns.specs.declared.outside.OutsideLine.{OutsideLine}
use Rattle.mx_why.specs.declared.failed_calls.FailedCall.{FailedCall}
use Rattle.mx_why.specs.declared.notes.Note.{Note}
use Rattle.mx_why.specs.declared.outside.LostLine.{LostLine}
use Rattle.mx_why.specs.declared.seats.End.{End}
use Rattle.mx_why.specs.declared.telling.Told.{Told}
use Rattle.mx_why.specs.declared.telling.Told.TheVariants as told
use Rattle.mx_why.specs.Busy.{busy, busy_lines}
use Rattle.mx_why.specs.Deaths.{deaths}
use Rattle.mx_why.specs.Endings.{deaths_text, ending_text}
use Rattle.mx_why.specs.FailedCalls.{failed_calls}
use Rattle.mx_why.specs.FailedLines.{failed_lines}
use Rattle.mx_why.specs.Lines.{idle_text, waits_text}
use Rattle.mx_why.specs.Marks.{is_marked}
use Rattle.mx_why.specs.Noting.{notes_of_records}
use Rattle.mx_why.specs.Outside.{lost_lines, outside_text}
use Rattle.mx_why.specs.RefusedRecords.{refused_record_text}
use Rattle.mx_why.specs.Seeing.{end_of}
use Rattle.mx_why.specs.Unfit.{unfit}
use Rattle.mx_why.specs.UnfitLines.{unfit_lines}
use Rattle.mx_why.specs.Unheard.{unheard, unheard_lines}
use Rattle.mx_why.specs.Verdicts.{verdicts}

-- the lines but the first
unfoldable pub later_lines : Config → End → List Note → List FailedCall → List LostLine → List ℕ
later_lines c e ns cs os =
    waits_text e ns (verdicts e) true ++ waits_text e ns (verdicts e) false ++ unheard_lines e ns (unheard e ns)
    ++ busy_lines e (busy e ns)
    ++ deaths_text e ns (deaths ns) ++ failed_lines c e cs ++ outside_text e os ++ idle_text e ns
    ++ unfit_lines c (unfit c e)

-- ALL LINES of a history of n records: of a machine that has done nothing, how it ended alone
unfoldable pub lines_text : Config → End → List Note → List FailedCall → List LostLine → ℕ → List ℕ
lines_text c e ns cs os n = ending_text e n c.log ++ (if n == 0 then [] else later_lines c e ns cs os)

-- of these records, and of a file of outside events whose lines say this
abbrev pub told_text : Config → End → List Note → List FailedCall → List Record → List (Option OutsideLine) → List ℕ
told_text c e ns cs records said = lines_text c e ns cs (lost_lines c e records said) (length records)

abbrev pub told_marked : Config → End → List Note → List FailedCall → List Record → List (Option OutsideLine) → Bool
told_marked c e ns cs records said = is_marked c e ns cs (lost_lines c e records said) (length records)

-- what is known after records: their notes and the calls that they refuse, or which one is refused
abbrev pub IsNoted :
    World → World → List Record → Option (ℕ × Refusal) → List Note → List FailedCall → Type 0
IsNoted w u records None ns cs =
    AreAccepted w (events_of_history records) × (u ≡ world_after_events w (events_of_history records))
    × (ns ≡ notes_of_records w records) × (cs ≡ failed_calls w records)
IsNoted w u records (Some p) ns cs = IsRefusedAt w records p.0 p.1

abbrev pub end_after : World → List Record → End
end_after w records = end_of (world_after_events w (events_of_history records))

-- of records, by the world where they lead, by their notes and by what they refuse
abbrev pub why_text : World → List Record → Config → List (Option OutsideLine) → List ℕ
why_text w records c said =
    told_text c (end_after w records) (notes_of_records w records) (failed_calls w records) records said

-- they have a mark
abbrev pub why_marked : World → List Record → Config → List (Option OutsideLine) → Bool
why_marked w records c said = told_marked c (end_after w records) (notes_of_records w records) (failed_calls w records) records said

-- WHAT IS PRINTED of records: the lines, and whether one has a mark; or which record is refused
abbrev pub IsWhyPrinted : World → List Record → Config → List (Option OutsideLine) → Told → (List ℕ → Type 0) → Type 0
IsWhyPrinted w records c said (told.Whole marked) Prints =
    AreAccepted w (events_of_history records) × (marked ≡ why_marked w records c said)
    × Prints (why_text w records c said)
IsWhyPrinted w records c said told.Refused Prints =
    (n : ℕ) × (r : Refusal) × IsRefusedAt w records n r × Prints (refused_record_text records n r)

-- a front of it is printed
abbrev pub IsWhyBegun : World → List Record → Config → List (Option OutsideLine) → (List ℕ → Type 0) → Type 0
IsWhyBegun w records c said Prints = (how : Told) × IsWhyPrinted w records c said how (PrintsFront Prints)
