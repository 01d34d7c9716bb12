-- Where one is in a history, as it is printed (our own).
use Rattle.std.specs.Prelude.{ℕ, zero, suc, ◌+◌, List, [], ◌++◌, codes, length, Option, Some, None, slice_get}
use Rattle.std.specs.Fmt.{decimal}
use Rattle.mx_app_step.specs.Log.{lines_above}
use Rattle.mx_app_step.specs.Records.{refused_record_line}
use Rattle.mx_look.specs.Code.{code_line}
use Rattle.mx_look.specs.Glances.{glance_of}
use Rattle.mx_look.specs.Trace.{event_text}
use Rattle.mx_look.specs.Words.{who}
use Rattle.mx_machine.specs.declared.events.Event.{Event}
use Rattle.mx_machine.specs.declared.events.Event.TheVariants as event
use Rattle.mx_machine.specs.declared.events.Refusal.{Refusal}
use Rattle.mx_machine.specs.declared.history.Record.{Record}
use Rattle.mx_machine.specs.World.{World, HeldProcess, held_by}
use Rattle.mx_print_answers.specs.Slots.{symbols_by}
use Rattle.mx_walk.specs.declared.positions.Position.{Position}
use Rattle.mx_walk.specs.Positions.{next_event}
use Rattle.mx_walk.specs.Walks.{Walk, refusal_here, world_here}

-- ---- a position: K, or K.J inside the next record

abbrev pub steps_text : ℕ → List ℕ
steps_text zero = []
steps_text (suc j) = codes "." ++ decimal (suc j)

abbrev pub position_text : Position → List ℕ
position_text p = decimal p.records ++ steps_text p.steps

-- ---- the next record, with its number

abbrev pub record_line : ℕ → Record → List ℕ
record_line n x =
    codes ", record " ++ decimal n ++ codes ": " ++ decimal x.actor ++ codes " " ++ event_text x.event ++ codes "\n"

-- ---- the next step: whose it is, and its instruction

abbrev pub process_line : World → Option HeldProcess → List ℕ
process_line w None = []
process_line w (Some l) =
    who (glance_of w) l.slot ++ codes " "
    ++ code_line (symbols_by (slice_get w.services l.slot)) l.out.image l.out.image.eip

-- of the next event, if it is a step
abbrev pub step_line : World → Option (ℕ × Event) → List ℕ
step_line w (Some (a, event.Step)) = process_line w (held_by w a)
step_line w _ = []

-- ---- THE PLACE

-- what comes next: the next step; or, where the next event is refused, the line of the history and why
abbrev pub ahead_line : Walk → Option Refusal → List ℕ
ahead_line k None = step_line (world_here k) (next_event k.records k.here)
ahead_line k (Some r) = refused_record_line (lines_above (world_here k).table.rules + (k.here.records + 1)) r

abbrev pub rest_of_place : Walk → Option Record → List ℕ
rest_of_place k None = codes ", the end\n"
rest_of_place k (Some x) = record_line (k.here.records + 1) x ++ ahead_line k (refusal_here k)

unfoldable pub place_text : Walk → List ℕ
place_text k =
    codes "at " ++ position_text k.here ++ codes " of " ++ decimal (length k.records)
    ++ rest_of_place k (slice_get k.records k.here.records)
