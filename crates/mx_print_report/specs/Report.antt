-- What a machine is reported as (our own).
use Rattle.std.specs.Prelude.{ℕ, ◌+◌, List, [], ◌∷◌, ◌++◌, codes}
use Rattle.std.specs.Fmt.{decimal}
use Rattle.mx_proc.specs.TableState.{TableState, process_at}
use Rattle.mx_respawn.specs.declared.service.Service.{Service}
use Rattle.mx_print_report.specs.declared.doing.Naming.{Naming}
use Rattle.mx_print_report.specs.declared.doing.Naming.TheVariants.{Endpoints}
use Rattle.mx_print_report.specs.SlotDoing.{doing_of, number_of}
use Rattle.mx_print_report.specs.Words.{doing_text, named}

-- the name, the number and the state of the process of a slot whose service has a name
abbrev pub process_words : Naming → TableState → ℕ → List ℕ → List ℕ
process_words by w s name =
    named name (number_of by w s) ++ codes " " ++ doing_text (doing_of by w s (process_at w s).state)

-- the line of a slot whose service has a name
abbrev pub slot_line : TableState → ℕ → List ℕ → List ℕ
slot_line w s name =
    let p = process_at w s in
    decimal s ++ 32 ∷ process_words Endpoints w s name ++ 32 ∷ decimal p.schedule.level ++ 32 ∷ decimal p.schedule.ticks
    ++ codes "\n"

-- the lines of services, of which the first has this slot
abbrev pub slot_lines : TableState → ℕ → List Service → List ℕ
slot_lines w s [] = []
slot_lines w s (v ∷ vs) = slot_line w s v.name.bytes ++ slot_lines w (s + 1) vs

-- a line for each service, one for the ticks since boot, one for how many bytes were written to the console, and of
-- these bytes those that it still holds
unfoldable pub report_text : TableState → List Service → List ℕ
report_text w services =
    slot_lines w 0 services ++ (codes "uptime " ++ decimal w.uptime ++ codes "\n")
    ++ (codes "console " ++ decimal w.devices.console.count ++ codes "\n") ++ w.devices.console.kept
