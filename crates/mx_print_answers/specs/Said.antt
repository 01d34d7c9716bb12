-- The answers to the lines of a script (our own).
use Rattle.std.specs.Prelude.{ℕ, List, ◌++◌, codes, Result, Ok, Err}
use Rattle.std.specs.List.{flat_map}
use Rattle.std.specs.Fmt.{decimal}
use Rattle.mx_machine.specs.Stop.{Stop}
use Rattle.mx_machine.specs.Stop.TheVariants.{Spent, Trap, Fault}
use Rattle.mx_machine.specs.declared.events.Answer.{Answer}
use Rattle.mx_machine.specs.declared.events.Answer.TheVariants.{Went, Taken, Returned, Done, Respawned}
use Rattle.mx_machine.specs.declared.events.Refusal.{Refusal}
use Rattle.mx_machine.specs.Held.{stop_of_outcome}
use Rattle.mx_machine.specs.Refusals.{code_of_refusal, name_of_refusal}
use Rattle.mx_print_answers.specs.declared.said.Said.{Said}
use Rattle.mx_print_answers.specs.declared.said.Said.TheVariants.{Stepped, Answered, Refused}

abbrev pub said_of_answer : Result Answer Refusal → Said
said_of_answer (Ok answer) = Answered answer
said_of_answer (Err refusal) = Refused refusal

-- ---- as it is printed

abbrev pub stop_word : Stop → List ℕ
stop_word Spent = codes "go"
stop_word Trap = codes "trap"
stop_word (Fault vector) = codes "fault " ++ decimal vector

abbrev pub answer_line : Answer → List ℕ
answer_line (Went outcome) = codes "stepped 1 " ++ stop_word (stop_of_outcome outcome)
answer_line (Taken endpoint budget) = codes "taken " ++ decimal endpoint ++ codes " budget " ++ decimal budget
answer_line (Returned count) = codes "returned " ++ decimal count
answer_line Done = codes "done"
answer_line (Respawned endpoint) = codes "respawned " ++ decimal endpoint

-- a refusal's number and its name
abbrev pub number_and_name : ℕ → List ℕ → List ℕ
number_and_name code name = codes "refused " ++ decimal code ++ codes " " ++ name

abbrev pub refusal_line : Refusal → List ℕ
refusal_line refusal = number_and_name (code_of_refusal refusal) (name_of_refusal refusal)

abbrev pub said_line : Said → List ℕ
said_line (Stepped count stop) = codes "stepped " ++ decimal count ++ codes " " ++ stop_word stop
said_line (Answered answer) = answer_line answer
said_line (Refused refusal) = refusal_line refusal

-- a line for each
abbrev pub said_lines : List Said → List ℕ
said_lines said = flat_map (λ s. said_line s ++ codes "\n") said
