-- How far a history replays (our own).
use Rattle.std.specs.Prelude.{◌≡◌, ◌⊎◌, ℕ, ◌+◌, List, [], ◌∷◌, ◌++◌, length, codes, Some, None}
use Rattle.std.specs.Fmt.{decimal}
use Rattle.mx_app_start.specs.Failure.{PrintsFront}
use Rattle.mx_app_start.specs.Log.{lines_above}
use Rattle.mx_app_start.specs.Report.{report_text}
use Rattle.mx_machine.specs.declared.events.Event.{Event}
use Rattle.mx_machine.specs.declared.events.Refusal.{Refusal}
use Rattle.mx_machine.specs.declared.history.Record.{Record}
use Rattle.mx_machine.specs.History.{AreAccepted, world_after_events, events_of, events_of_history}
use Rattle.mx_machine.specs.Move.{event_refusal, world_after_event}
use Rattle.mx_machine.specs.World.{World}
use Rattle.mx_app_step.specs.declared.records.Replayed.{Replayed}
use Rattle.mx_app_step.specs.declared.records.Replayed.TheVariants as replayed
use Rattle.mx_print_answers.specs.Said.{refusal_line}

-- the first of these events that isn't accepted is refused for this
abbrev pub IsFirstRefusal : World → List (ℕ × Event) → Refusal → Type 0
IsFirstRefusal w [] r = ⊥
IsFirstRefusal w (x ∷ xs) r =
    (event_refusal w x.0 x.1 ≡ Some r)
    ⊎ ((event_refusal w x.0 x.1 ≡ None) × IsFirstRefusal (world_after_event w x.0 x.1) xs r)

-- the record of this number, counted from 1, is of an event that is refused, and those before it are accepted
abbrev pub IsRefusedAt : World → List Record → ℕ → Refusal → Type 0
IsRefusedAt w records n r =
    (earlier later : List Record) × (x : Record)
    × (records ≡ earlier ++ x ∷ later) × AreAccepted w (events_of_history earlier)
    × IsFirstRefusal (world_after_events w (events_of_history earlier)) (events_of x.actor x.event) r
    × (n ≡ length earlier + 1)

-- the line that is printed of it, by the record's line in the text
abbrev pub refused_record_line : ℕ → Refusal → List ℕ
refused_record_line n r = codes "line " ++ decimal n ++ codes ": " ++ refusal_line r ++ codes "\n"

-- what is printed of a history: the report on the world where it leads, or which of its events is refused
abbrev pub IsReplayPrinted : World → List Record → Replayed → (List ℕ → Type 0) → Type 0
IsReplayPrinted w records replayed.Whole Prints =
    AreAccepted w (events_of_history records)
    × (let u = world_after_events w (events_of_history records) in Prints (report_text u.table u.services))
IsReplayPrinted w records replayed.Refused Prints =
    (n : ℕ) × (r : Refusal) × IsRefusedAt w records n r × Prints (refused_record_line (lines_above w.table.rules + n) r)

-- a front of it is printed
abbrev pub IsReplayBegun : World → List Record → (List ℕ → Type 0) → Type 0
IsReplayBegun w records Prints = (how : Replayed) × IsReplayPrinted w records how (PrintsFront Prints)
