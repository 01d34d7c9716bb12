-- THE LINE OF A HISTORY of which a record is refused (our own).
use Rattle.std.specs.Prelude.{ℕ, ◌-◌, List, [], ◌++◌, codes, Option, Some, None, slice_get}
use Rattle.std.specs.Fmt.{decimal}
use Rattle.mx_look.specs.Trace.{event_text}
use Rattle.mx_machine.specs.declared.events.Refusal.{Refusal}
use Rattle.mx_machine.specs.declared.history.Record.{Record}
use Rattle.mx_machine.specs.Refusals.{code_of_refusal, name_of_refusal}

-- why, and of what LOG may be then
unfoldable pub cause_text : Refusal → List ℕ
cause_text r =
    codes ") is refused, " ++ decimal (code_of_refusal r) ++ codes " " ++ name_of_refusal r
    ++ codes ". LOG is of another machine, or CONFIG or a program was changed since, or LOG itself\n"

unfoldable pub refused_record : ℕ → Record → Refusal → List ℕ
refused_record n x r =
    codes "ends: record " ++ decimal n ++ codes " (" ++ decimal x.actor ++ codes " " ++ event_text x.event
    ++ cause_text r

abbrev pub refused_record_by : ℕ → Refusal → Option Record → List ℕ
refused_record_by n r None = []
refused_record_by n r (Some x) = refused_record n x r

-- of the record of this number, the first having the number 1
unfoldable pub refused_record_text : List Record → ℕ → Refusal → List ℕ
refused_record_text records n r = refused_record_by n r (slice_get records (n - 1))
