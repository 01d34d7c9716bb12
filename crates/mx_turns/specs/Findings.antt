-- What a position tells of its fault (our own).
use Rattle.std.specs.Prelude.{◌&&◌, if◌then◌else◌, Bool, true, false, List, [], ◌∷◌, Option, Some, None}
use Rattle.mx_machine.specs.declared.events.Refusal.{Refusal}
use Rattle.mx_print_answers.specs.declared.said.Said.{Said}
use Rattle.mx_print_answers.specs.declared.said.Said.TheVariants.{Refused}
use Rattle.mx_turns.specs.declared.turns.Ending.{Ending}
use Rattle.mx_turns.specs.declared.turns.Ending.TheVariants.{Full}
use Rattle.mx_turns.specs.declared.trials.Findings.{Findings}
use Rattle.mx_turns.specs.Sweep.{Run, are_alike}

abbrev pub is_refused : Said → Bool
is_refused (Refused refusal) = true
is_refused said = false

abbrev pub are_refused : List Said → Bool
are_refused [] = true
are_refused (s ∷ said) = is_refused s && are_refused said

-- WHY A FAULT DID NOTHING: the refusal of its first line, if each of its lines was refused
abbrev pub refusal_of : List Said → Option Refusal
refusal_of (Refused refusal ∷ said) = if are_refused said then Some refusal else None
refusal_of said = None

abbrev pub is_full : Ending → Bool
is_full Full = true
is_full ending = false

-- WHAT A POSITION TELLS, by its run with the fault and its run without it
abbrev pub findings_of : Run → Run → Findings
findings_of run without =
    record { is_alike = are_alike run without; refusal = refusal_of run.said; is_full = is_full run.ending }
