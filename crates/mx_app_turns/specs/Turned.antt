-- Machines that make turns, and what `mx turns` leaves (our own).
use Rattle.std.specs.Prelude.{◌≡◌, ◌⊎◌, ◌≤◌, ◌^◌, ℕ, Bool, true, false, List, [], ◌∷◌, ◌++◌, All, Option, Some, None, Result, Ok, Err, replicate}
use Rattle.std.specs.Io.KnownBytes.{Appends}
use Rattle.mx_machine.specs.declared.config.Config.{Config}
use Rattle.mx_machine.specs.declared.events.Event.TheVariants.{Tick}
use Rattle.mx_machine.specs.declared.history.Record.{Record}
use Rattle.mx_machine.specs.Boot.{world_at_boot}
use Rattle.mx_machine.specs.History.{AreAccepted, BootAndHistory, IsWritable, events_of_history, replay, world_after_events}
use Rattle.mx_machine.specs.Move.{moves}
use Rattle.mx_machine.specs.World.{actors}
use Rattle.mx_machine.specs.Service.{Service}
use Rattle.mx_machine.specs.Machine.{kept_along}
use Rattle.mx_turns.specs.declared.outside.OutsideLine.{OutsideLine}
use Rattle.mx_turns.specs.declared.outside.OutsideLine.TheVariants.{Plain}
use Rattle.mx_turns.specs.declared.turns.Ending.{Ending}
use Rattle.mx_turns.specs.Shown.{turns_shown}
use Rattle.mx_turns.specs.Turns.{turns}
use Rattle.mx_app_turns.specs.declared.turning.TurnsEnd.{TurnsEnd}
use Rattle.mx_walk.specs.declared.progress.Part.{Part}
use Rattle.mx_app_failure.specs.declared.failure.Failure.{Failure as Kind}
use Rattle.mx_app_failure.specs.declared.failure.Failure.TheVariants.{NoMemory}
use Rattle.mx_app_step.specs.Asked.{Asked}
use Rattle.mx_app_step.specs.Course.{IsSaved}
use Rattle.mx_app_step.specs.Kept.{IsUnreported}
use Rattle.mx_app_step.specs.Programs.{SparesProgram, names_program}
use Rattle.mx_app_step.specs.Records.{IsReplayPrinted}
use Rattle.mx_app_step.specs.Report.{report_text}
use Rattle.mx_app_step.specs.Setup.{IsNotStarted, IsSetup, IsSetupFault, IsStart}
use Rattle.mx_app_step.specs.Text.{saved_text}
use Rattle.mx_app_step.specs.Written.{Written, kept}
use Rattle.mx_app_step.specs.declared.records.Replayed.{Replayed}
use Rattle.mx_app_step.specs.declared.records.Replayed.TheVariants.{Whole}
use Rattle.mx_app_turns.specs.Events.{AreOutside, TellsOutside}

-- ---- a machine's turns

-- THE TURNS of a configuration and its services, at most n, with these outside events to come, end at a kernel: it was
-- booted so, its history has the records of what was made, and no others, and the turns end so.
pub record IsTurned (c : Config) (vs : List Service) (n : ℕ) (coming : List OutsideLine) (k : BootAndHistory)
    (how : Ending) : Type 0 where
  pub boot : k.boot ≡ world_at_boot c vs
  pub made : (let xs = (turns n (world_at_boot c vs) coming).made in
      k ≡ kept_along (record { boot = world_at_boot c vs; history = [] }) xs (moves (world_at_boot c vs) xs).0)
  pub ending : how ≡ (turns n (world_at_boot c vs) coming).ending
  -- the report is of the world after them: a kernel's table, services and number of records are the machine's
  pub world : (let w = world_after_events (world_at_boot c vs) (turns n (world_at_boot c vs) coming).made in
      ((replay k).table ≡ w.table) × ((replay k).services ≡ w.services) × ((replay k).records ≡ w.records))
  pub room : (replay k).records ≤ 2 ^ 20
  pub accepted : AreAccepted k.boot (events_of_history k.history)
  pub written : All (IsWritable (actors (replay k))) k.history

-- what is shown of them: after each, how many records the history has, of those that the configuration allows
abbrev pub ShowsTurns : Config → List Service → ℕ → List OutsideLine → List Part → Type 0
ShowsTurns c vs n coming ps = ps ≡ turns_shown c.log n (world_at_boot c vs) coming

-- ---- turns that may be stopped

-- how many turns they were, of at most n: all that were asked for; or fewer if they were stopped, and `stops` says
-- whether there is a file that stops them
pub record AreSome (stops : Bool) (n : ℕ) (how : TurnsEnd) (made : ℕ) : Type 0 where
  pub most : made ≤ n
  pub all : how.is_stopped ≡ false → made ≡ n
  pub stopped : how.is_stopped ≡ true → stops ≡ true

-- THE TURNS, of which at most n were made, and what is shown of them
abbrev pub IsTurnedTo : Bool → Config → List Service → ℕ → List OutsideLine → BootAndHistory → TurnsEnd → List Part
    → Type 0
IsTurnedTo stops c vs n coming k how ps =
    (made : ℕ) × AreSome stops n how made × IsTurned c vs made coming k how.ending × ShowsTurns c vs made coming ps

-- ---- `mx turns`

-- what is to come: the file's events, if a file is named, and then the ticks
abbrev pub coming : List OutsideLine → ℕ → List OutsideLine
coming events ticks = events ++ replicate ticks (Plain Tick)

-- the configuration, its services, and the file of outside events, if one is named, were read
abbrev pub IsBegun : List ℕ → Option (List ℕ) → List Asked → Config → List Service → List OutsideLine → Type 0
IsBegun config None qs c vs events = IsSetup config qs c vs × (events ≡ [])
IsBegun config (Some name) qs c vs events = IsStart AreOutside config name qs c vs events

-- the first fault of these files; or, if there is none, out of memory
abbrev pub IsNotBegun : List ℕ → Option (List ℕ) → List Asked → Kind → Type 0
IsNotBegun config None qs f =
    IsSetupFault config qs f ⊎ ((c : Config) × (vs : List Service) × IsSetup config qs c vs × (f ≡ NoMemory))
IsNotBegun config (Some name) qs f = IsNotStarted AreOutside TellsOutside config name qs f

-- WHAT `mx turns` DOES: it shows after each turn how many records the history has, of those that it may have; it writes
-- the text of the history of a machine's turns, whole, and prints the report on the machine after them; or it fails,
-- and this is why
abbrev pub MakesTurns : Bool → List ℕ → Option (List ℕ) → List ℕ → ℕ → ℕ → List Asked → List Written → List Part
    → (List ℕ → Type 0) → Result TurnsEnd Kind → Type 0
MakesTurns stops config events log ticks n qs ws ps Prints (Ok ending) =
    (c : Config) × (vs : List Service) × (xs : List OutsideLine) × (k : BootAndHistory) × IsBegun config events qs c vs xs
    × (names_program c log ≡ false) × IsTurnedTo stops c vs n (coming xs ticks) k ending ps
    × (ws ≡ kept log (saved_text c.rules k.history) ∷ []) × Prints (report_text (replay k).table (replay k).services)
MakesTurns stops config events log ticks n qs ws ps Prints (Err f) =
    ((ws ≡ []) × (ps ≡ []) × Prints [] × IsNotBegun config events qs f)
    ⊎ (((c : Config) × (vs : List Service) × (xs : List OutsideLine) × IsBegun config events qs c vs xs × (ps ≡ [])
    × SparesProgram c log ws Prints f)
    ⊎ ((c : Config) × (vs : List Service) × (xs : List OutsideLine) × (k : BootAndHistory) × (ending : TurnsEnd)
    × IsBegun config events qs c vs xs
    × (names_program c log ≡ false) × IsTurnedTo stops c vs n (coming xs ticks) k ending ps
    × IsUnreported log (saved_text c.rules k.history) ws Prints f))

-- ---- its replay

-- `mx replay` of the same configuration and services prints, of the text that was written, the same report
abbrev pub TurnsReplay : Type 0
TurnsReplay =
    (c d : Config) (vs : List Service) (n : ℕ) (xs : List OutsideLine) (k : BootAndHistory) (ending : Ending)
    (records : List Record) (how : Replayed) (before after : Option (List ℕ))
    → IsTurned c vs n xs k ending → IsSaved (saved_text c.rules k.history) c d records
    → IsReplayPrinted (world_at_boot d vs) records how (λ text. Appends before after text)
    → (how ≡ Whole) × Appends before after (report_text (replay k).table (replay k).services)
