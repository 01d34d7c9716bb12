-- What standard error gets after a command that made a history (our own).
use Rattle.std.specs.Prelude.{◌≡◌, ◌⊎◌, ℕ, ◌==◌, ◌&&◌, ◌||◌, not, if◌then◌else◌, Bool, true, false, List, [], ◌∷◌, ◌++◌, codes, length, Option, Some, None, Result, Ok, Err, option_map, take}
use Rattle.std.specs.declared.io.ErrorKind.{ErrorKind}
use Rattle.mx_app_command.specs.declared.command_line.CommandRequest.{CommandRequest}
use Rattle.mx_app_command.specs.declared.command_line.CommandRequest.TheVariants as requests
use Rattle.mx_app_failure.specs.Failure.{failure_if, problem_of_reading}
use Rattle.mx_app_failure.specs.declared.failure.About.TheVariants.{Written as FileWritten}
use Rattle.mx_app_failure.specs.declared.failure.Access.TheVariants as access
use Rattle.mx_app_failure.specs.declared.failure.Failure.{Failure as Kind}
use Rattle.mx_app_failure.specs.declared.failure.FileProblem.TheVariants.{Unread}
use Rattle.mx_app_db.specs.Asked.{Asked, file_given, file_missed}
use Rattle.mx_app_db.specs.Config.{Config}
use Rattle.mx_app_db.specs.Service.{Service}
use Rattle.mx_machine.specs.declared.history.Record.{Record}
use Rattle.mx_machine.specs.Boot.{world_at_boot}
use Rattle.mx_app.specs.Ending.{driven_word}
use Rattle.mx_app.specs.declared.ending.DrivenEnding.{DrivenEnding}
use Rattle.mx_app.specs.declared.ending.DrivenEnding.TheVariants.{Interrupted, Run}
use Rattle.mx_app_run.specs.declared.run_by_threads.RunEnding.TheVariants as runs
use Rattle.mx_turns.specs.declared.outside.OutsideLine.{OutsideLine}
use Rattle.mx_why.specs.AfterRun.{IsToldWithin, command_text}
use Rattle.mx_why.specs.Begun.{FileNames, IsBegun, IsUntold, file_names}
use Rattle.mx_why.specs.declared.after_run.AfterRun.{AfterRun}
use Rattle.mx_why.specs.declared.after_run.AfterRun.TheVariants as after

-- it was stopped
abbrev pub is_stopped : Option DrivenEnding → Bool
is_stopped (Some (Run runs.Stopped)) = true
is_stopped (Some Interrupted) = true
is_stopped ending = false

-- it is told if the history has a mark: at a terminal, or if a mark is an error
abbrev pub wants_marks : Option DrivenEnding → Bool → Bool → Bool
wants_marks ending shows strict = not (is_stopped ending) && (shows || strict)

-- THE STATUS after a command: 1 in place of 0, if a mark is an error and there is one
abbrev pub status_after : ℕ → Bool → Bool → ℕ
status_after status strict marked = if (status == 0) && (strict && marked) then 1 else status

-- the files of the history that a request makes
abbrev pub made_by : CommandRequest → Option FileNames
made_by (requests.Step config script (Some log) numbered) = Some (file_names config.now log.now None)
made_by (requests.Run config log ticks events stop) =
    Some (file_names config.now log.now (option_map (λ s. s.now) events))
made_by (requests.Turns config log ticks events bound stop) =
    Some (file_names config.now log.now (option_map (λ s. s.now) events))
made_by r = None

unfoldable pub ended_text : List ℕ → List ℕ
ended_text word = codes "mx: " ++ word

-- what tells more of a history
unfoldable pub pointer_text : FileNames → List ℕ
pointer_text f = codes ";" ++ command_text f

unfoldable pub unknown_text : List ℕ → FileNames → List ℕ
unknown_text word f = ended_text word ++ pointer_text f ++ codes "\n"

-- THE LINE of a history of which nothing is known: how the turns or the run ended, and what tells more
abbrev pub unknown_line : Option DrivenEnding → Option FileNames → Option (List ℕ)
unknown_line (Some ending) (Some names) = Some (unknown_text (driven_word ending) names)
unknown_line ending names = None

-- what is told of the history in these files, if the files are as a start wants them
abbrev pub TellsOf : Bool → FileNames → List Asked → Result AfterRun Kind → Type 0
TellsOf strict names qs (Ok told) =
    (c : Config) × (vs : List Service) × (records : List Record) × (said : List (Option OutsideLine))
    × IsBegun names qs c vs records said
    × IsToldWithin strict (world_at_boot c vs) (take 4294967295 records) c said names told
TellsOf strict names qs (Err f) = IsUntold names qs f

-- the history can't be read again: its first bytes are missed; or it has none, as a new name or that of a pipe
abbrev pub IsNotAgain : List ℕ → List Asked → Kind → Type 0
IsNotAgain log qs f =
    ((k : ErrorKind) × (qs ≡ file_missed log k ∷ []) × (f ≡ failure_if (problem_of_reading k) FileWritten))
    ⊎ ((qs ≡ file_given log [] ∷ []) × (f ≡ failure_if (Some (Unread access.Other)) FileWritten))

-- what is told of the history in these files, if it can be read again
abbrev pub TellsAgain : Bool → FileNames → List Asked → Result AfterRun Kind → Type 0
TellsAgain strict names qs r =
    ((front : List ℕ) × (rest : List Asked) × (qs ≡ file_given names.log front ∷ rest) × ((length front == 0) ≡ false)
    × TellsOf strict names rest r)
    ⊎ ((f : Kind) × IsNotAgain names.log qs f × (r ≡ Err f))

-- WHAT IS TOLD AFTER A COMMAND: nothing is read, if it makes no history
abbrev pub TellsAfter : Bool → Option FileNames → List Asked → Result AfterRun Kind → Type 0
TellsAfter strict None qs r = (qs ≡ []) × (r ≡ Ok after.Nothing)
TellsAfter strict (Some names) qs r = TellsAgain strict names qs r
