-- SWEEPS: what comes of a run if a fault happens at a position of its history (our own).
use Rattle.std.specs.Prelude.{ℕ, ◌+◌, nat_le, ◌&&◌, if◌then◌else◌, Bool, List, [], ◌∷◌, ◌++◌, codes, drop, map, take, Option, Some, None}
use Rattle.std.specs.Fmt.{decimal}
use Rattle.std.specs.List.{flat_map}
use Rattle.std.specs.Str.{bytes_eq}
use Rattle.mx_app_step.specs.Kept.{kept_of}
use Rattle.mx_machine.specs.declared.events.Event.TheVariants as events
use Rattle.mx_machine.specs.declared.history.Record.{Record}
use Rattle.mx_machine.specs.declared.history.Recorded.{Recorded}
use Rattle.mx_machine.specs.declared.history.Recorded.TheVariants as recorded
use Rattle.mx_machine.specs.History.{BootAndHistory, events_of_history, world_after_events}
use Rattle.mx_machine.specs.Service.{Service}
use Rattle.mx_machine.specs.World.{World}
use Rattle.mx_machine.specs.Proc.TableState.{TableState}
use Rattle.mx_print_answers.specs.declared.said.Said.{Said}
use Rattle.mx_print_answers.specs.Said.{said_line}
use Rattle.mx_print_report.specs.declared.doing.Naming.{Naming}
use Rattle.mx_print_report.specs.declared.doing.Naming.TheVariants.{Endpoints, Slots}
use Rattle.mx_print_report.specs.Report.{process_words}
use Rattle.mx_text.specs.Lines.{lines}
use Rattle.mx_turns.specs.declared.outside.OutsideLine.{OutsideLine}
use Rattle.mx_turns.specs.declared.outside.OutsideLine.TheVariants.{Plain}
use Rattle.mx_turns.specs.declared.turns.Ending.{Ending}
use Rattle.mx_turns.specs.Endings.{ending_word}
use Rattle.mx_turns.specs.Turns.{turns}
use Rattle.mx_turns.specs.declared.faults.FaultLine.{FaultLine}
use Rattle.mx_turns.specs.Faults.{faults_kept, faults_made}

-- ---- outside events

-- the outside event of a record: a line or a tick
abbrev pub outside_event : Recorded → Option OutsideLine
outside_event (recorded.Line l) = Some (Plain (events.Line l))
outside_event recorded.Tick = Some (Plain events.Tick)
outside_event _ = None

abbrev pub with_first : Option OutsideLine → List OutsideLine → List OutsideLine
with_first (Some e) es = e ∷ es
with_first None es = es

-- those of records, in order
abbrev pub coming : List Record → List OutsideLine
coming [] = []
coming (x ∷ xs) = with_first (outside_event x.event) (coming xs)

-- ---- trials

-- What comes of a position: what is said of the fault's lines, how the turns after them end, and the world and the
-- kernel then.
pub record Run : Type 0 where
  pub said : List Said
  pub ending : Ending
  pub world : World
  pub kernel : BootAndHistory

-- A RUN ON FROM A KERNEL AND A WORLD: the fault's lines, in which `other` is the actor of those that name none; then at
-- most n turns, with these outside events to come
abbrev pub run_from : BootAndHistory → World → ℕ → List OutsideLine → ℕ → List FaultLine → Run
run_from kernel world other events n fault =
    let faulted = faults_made world other fault in
    let course = turns n faulted.1 events in
    record {
      said = faulted.0;
      ending = course.ending;
      world = world_after_events faulted.1 course.made;
      kernel = kept_of (faults_kept kernel world other fault) faulted.1 course.made;
    }

-- A RUN WITH A FAULT AT POSITION k: boot; the first k records; the fault's lines, in which `other` is the actor of
-- those that name none; then at most n turns, with the lines and the ticks of the records after position k to come
abbrev pub run_of : World → ℕ → List Record → ℕ → List FaultLine → ℕ → Run
run_of boot other records n fault k =
    let above = world_after_events boot (events_of_history (take k records)) in
    let faulted = faults_made above other fault in
    let kept = faults_kept
    (kept_of (record { boot = boot; history = [] }) boot
    (events_of_history (take k records))) above other fault in
    let course = turns n faulted.1 (coming (drop k records)) in
    record {
      said = faulted.0;
      ending = course.ending;
      world = world_after_events faulted.1 course.made;
      kernel = kept_of kept faulted.1 course.made;
    }

-- ---- what is printed of a trial: lines that begin with two spaces

abbrev pub indented : List ℕ → List ℕ
indented line = codes "  " ++ line ++ codes "\n"

abbrev pub said_text : List Said → List ℕ
said_text said = flat_map (λ s. indented (said_line s)) said

-- a line for each service, the first of which has this slot
abbrev pub process_lines : Naming → TableState → ℕ → List Service → List ℕ
process_lines by t s [] = []
process_lines by t s (v ∷ vs) = indented (process_words by t s v.name.bytes) ++ process_lines by t (s + 1) vs

-- states, ending, and how many bytes were written to the console
abbrev pub end_text : Naming → World → Ending → List ℕ
end_text by w ending =
    process_lines by w.table 0 w.services ++ indented (ending_word ending)
    ++ (codes "  console " ++ decimal w.table.devices.console.count ++ codes "\n")

-- a byte of the console as it is printed: one that isn't printable as a dot
abbrev pub shown : ℕ → ℕ
shown b = if nat_le 32 b && nat_le b 126 then b else 46

-- the last bytes of the console, as lines
abbrev pub kept_text : List ℕ → List ℕ
kept_text bytes = flat_map (λ line. codes "  > " ++ map shown line ++ codes "\n") (lines bytes)

abbrev pub trial_text : Run → List ℕ
trial_text r = said_text r.said ++ end_text Endpoints r.world r.ending ++ kept_text r.world.table.devices.console.kept

-- WHAT IS COMPARED of a trial: states, with slots in place of endpoints, ending and console
abbrev pub seen_text : Run → List ℕ
seen_text r = end_text Slots r.world r.ending ++ r.world.table.devices.console.kept

-- two trials are alike
abbrev pub are_alike : Run → Run → Bool
are_alike r s = bytes_eq (seen_text r) (seen_text s)
