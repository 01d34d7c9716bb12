-- SWEEPS THAT TEST NOTHING (our own).
use Rattle.std.specs.Prelude.{ℕ, ◌==◌, ◌++◌, if◌then◌else◌, Bool, List, Option, Some, None, codes}
use Rattle.std.specs.Fmt.{decimal}
use Rattle.mx_machine.specs.declared.events.Refusal.{Refusal}
use Rattle.mx_machine.specs.Refusals.{code_of_refusal, name_of_refusal}
use Rattle.mx_app_turns.specs.declared.blocks.Total.{Total}
use Rattle.mx_app_turns.specs.declared.nothing_tested.Untested.{Untested}
use Rattle.mx_app_turns.specs.declared.nothing_tested.Untested.TheVariants.{NoLine, NoPosition, Refused, Full}

abbrev pub refused_or_full : Option Refusal → Bool → Option Untested
refused_or_full (Some refusal) full = Some (Refused refusal)
refused_or_full None full = if full then Some Full else None

-- WHY NOTHING WAS TESTED, if so: the fault has no line; there is no position; each of its lines was refused at each
-- position, the first for this reason; or each position ended since its history was full
abbrev pub untested_by : ℕ → ℕ → ℕ → Total → Option Refusal → Option Untested
untested_by lines from to total first =
    if lines == 0 then Some NoLine
    else (if total.positions == 0 then Some (NoPosition from to)
    else refused_or_full (if total.refused == total.positions then first else None) (total.full == total.positions))

-- the line that says it, without its end
abbrev pub untested_text : Untested → List ℕ
untested_text NoLine = codes "mx: no position was tested: FAULT has no line"
untested_text (NoPosition from to) =
    codes "mx: no position was tested: the history has none from " ++ decimal from ++ codes " to " ++ decimal to
untested_text (Refused refusal) =
    codes "mx: no position was tested: FAULT was refused at each, first " ++ decimal (code_of_refusal refusal)
    ++ codes " " ++ name_of_refusal refusal
untested_text Full = codes "mx: each position ends full: log in CONFIG"
