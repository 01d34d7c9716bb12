-- WHAT IS READ of a history: a configuration, its services, the history and the file of outside events (our own).
use Rattle.std.specs.Prelude.{◌≡◌, ◌⊎◌, ℕ, List, ◌++◌, Option, option_map}
use Rattle.mx_app_failure.specs.declared.failure.Failure.{Failure}
use Rattle.mx_app_failure.specs.Failure.{IsWanting}
use Rattle.mx_app_start.specs.Asked.{Asked}
use Rattle.mx_app_start.specs.Config.{Config}
use Rattle.mx_app_start.specs.Course.{IsSaved, TellsSaved}
use Rattle.mx_app_start.specs.Service.{Service}
use Rattle.mx_app_start.specs.Setup.{IsNotStarted, IsStart}
use Rattle.mx_machine.specs.declared.history.Record.{Record}
use Rattle.mx_turns.specs.declared.outside.OutsideLine.{OutsideLine}
use Rattle.mx_why.specs.declared.begun.HistoryNames.{HistoryNames}
use Rattle.mx_why.specs.EventFiles.{AreEventsRead, AreEventsUnread}

-- The names of the files.
pub record FileNames : Type 0 where
  pub config : List ℕ
  pub log : List ℕ
  pub events : Option (List ℕ)

abbrev pub file_names : List ℕ → List ℕ → Option (List ℕ) → FileNames
file_names config log events = record { config = config; log = log; events = events }

abbrev pub names_of : HistoryNames → FileNames
names_of n = file_names n.config.now n.log.now (option_map (λ s. s.now) n.events)

-- they were read, in this order: no file of outside events, if none is named
abbrev pub IsBegun : FileNames → List Asked → Config → List Service → List Record → List (Option OutsideLine) → Type 0
IsBegun n qs c vs records said =
    (before after : List Asked) × (qs ≡ before ++ after) × IsStart IsSaved n.config n.log before c vs records
    × AreEventsRead n.events after c.lines said

-- the first fault of these files
abbrev pub IsNotBegun : FileNames → List Asked → Failure → Type 0
IsNotBegun n qs f =
    IsNotStarted IsSaved TellsSaved n.config n.log qs f
    ⊎ ((before after : List Asked) × (c : Config) × (vs : List Service) × (records : List Record)
    × (qs ≡ before ++ after) × IsStart IsSaved n.config n.log before c vs records
    × AreEventsUnread n.events after c.lines f)

-- why nothing is told, or not all: the first fault; or, where there is none, it can't be printed, or memory is out
abbrev pub IsUntold : FileNames → List Asked → Failure → Type 0
IsUntold n qs f =
    IsNotBegun n qs f
    ⊎ ((c : Config) × (vs : List Service) × (records : List Record) × (said : List (Option OutsideLine))
    × IsBegun n qs c vs records said × IsWanting f)
