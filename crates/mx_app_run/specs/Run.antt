-- Machines whose processors are threads, and what their runs leave (our own).
use Rattle.std.specs.Prelude.{◌≡◌, ◌⊎◌, ◌==◌, ◌&&◌, ◌||◌, ◌+◌, ◌-◌, ◌++◌, if◌then◌else◌, ℕ, Bool, true, false, nat_lt, List, [], ◌∷◌, length, All, Option, Some, None, Result, Ok, Err, IsErrAnd}
use Rattle.std.specs.Io.KnownBytes.{Appends}
use Rattle.atomic_table.specs.Seated.{TableId}
use Rattle.mx_machine.specs.declared.config.Config.{Config}
use Rattle.mx_machine.specs.declared.history.Record.{Record}
use Rattle.mx_machine.specs.Boot.{world_at_boot}
use Rattle.mx_machine.specs.History.{AreAccepted, BootAndHistory, IsWritable, events_of_history, replay}
use Rattle.mx_machine.specs.Rest.{at_rest}
use Rattle.mx_machine.specs.World.{World, actors}
use Rattle.mx_machine.specs.Service.{Service}
use Rattle.mx_cpus.specs.Seats.{SeatView}
use Rattle.mx_cpus.specs.Calls.{StandsIn}
use Rattle.mx_cpus.specs.Boots.{all_seats}
use Rattle.mx_cpus.specs.Outsiders.{AreDrivenWith, AreServedWith, AreWholeWith}
use Rattle.mx_cpus.specs.Gates.{GateCall}
use Rattle.mx_walk.specs.declared.progress.Part.{Part}
use Rattle.mx_app_run.specs.Shows.{is_full_at, shows}
use Rattle.mx_cpus.specs.declared.outside.OutsideCall.{OutsideCall}
use Rattle.mx_app_step.specs.Report.{report_text}
use Rattle.mx_boot.specs.Text.{saved_text}
use Rattle.mx_app_run.specs.declared.run_by_threads.RunEnding.{RunEnding}
use Rattle.mx_app_run.specs.declared.run_by_threads.RunEnding.TheVariants.{Full, Rest, Stopped}
use Rattle.mx_app_failure.specs.declared.failure.Failure.{Failure as Kind}
use Rattle.mx_app_failure.specs.declared.failure.Failure.TheVariants.{NoMemory}
use Rattle.mx_app_step.specs.Asked.{Asked}
use Rattle.mx_app_run.specs.Calls.{AreCallsGiven, IsCallsFault, ticks_of}
use Rattle.mx_app_step.specs.Course.{IsSaved}
use Rattle.mx_app_step.specs.Kept.{IsUnreported}
use Rattle.mx_app_step.specs.Programs.{SparesProgram, names_program}
use Rattle.mx_app_step.specs.Setup.{IsSetup, IsSetupFault}
use Rattle.mx_app_step.specs.Written.{Written, kept}
use Rattle.mx_app_step.specs.Records.{IsReplayPrinted}
use Rattle.mx_app_step.specs.declared.records.Replayed.{Replayed}
use Rattle.mx_app_step.specs.declared.records.Replayed.TheVariants.{Whole}

-- ---- a run

-- the loops of these seats have ended, each of them for a reason that its course says, by whether all calls were made;
-- and what each seat shows then is in the history
abbrev pub EndsDriven : World → (GateCall → Type 0) → ℕ → ℕ → List OutsideCall → Bool → List SeatView → List Record
    → Type 0
EndsDriven boot WasCalled cpus ticks xs whole seats history =
    (ended : List SeatView) × AreDrivenWith cpus ticks xs seats ended
    × AreServedWith boot WasCalled cpus ticks xs seats ended
    × AreWholeWith boot WasCalled cpus xs seats ended whole × All (StandsIn history) ended

-- what a run leaves, whatever its loops did: a kernel that was booted so, and each event of its history is accepted
pub record IsRunHistory (c : Config) (vs : List Service) (k : BootAndHistory) : Type 0 where
  pub boot : k.boot ≡ world_at_boot c vs
  pub accepted : AreAccepted k.boot (events_of_history k.history)
  pub written : All (IsWritable (actors (replay k))) k.history

-- A RUN of a configuration and its services with at most some ticks, and with some calls of the outsider, ends at a
-- kernel. It was booted so, each event of its history is accepted, and the records of each actor there are those of its
-- loop, which went on until the history was full or the gate ended it. WasShown holds of what the progress was shown,
-- and `stops` says whether there is a file that stops the run.
pub record IsRun (WasShown : Part → Type 0) (stops : Bool) (c : Config) (vs : List Service) (ticks : ℕ) (xs : List OutsideCall)
    (whole : Bool) (k : BootAndHistory) : Type 0 where
  pub history : IsRunHistory c vs k
  pub table : TableId
  pub loops : EndsDriven (world_at_boot c vs) (shows WasShown c.log stops) c.cpus ticks xs whole (all_seats c table) k.history

-- fewer records are free than the two that a turn needs
abbrev pub is_full : ℕ → BootAndHistory → Bool
is_full log k = is_full_at log (length k.history)

-- the machine is at rest, and as many ticks were made as were asked for
abbrev pub has_rested : ℕ → List OutsideCall → BootAndHistory → Bool
has_rested ticks xs k = at_rest (replay k) && ((replay k).table.uptime == ticks + ticks_of xs)

-- HOW IT ENDS, by whether all calls were made: at rest after all ticks and calls; else with a full history; else it was
-- stopped before. The uptime counts the ticks that are made
abbrev pub run_ending : ℕ → ℕ → List OutsideCall → Bool → BootAndHistory → RunEnding
run_ending log ticks xs whole k =
    if whole && has_rested ticks xs k then Rest else if is_full log k then Full else Stopped

-- ---- `mx run`

-- the configuration, its services, and the file of outside events, if one is named, were read
abbrev pub IsCalled : List ℕ → Option (List ℕ) → List Asked → Config → List Service → List OutsideCall → Type 0
IsCalled config None qs c vs xs = IsSetup config qs c vs × (xs ≡ [])
IsCalled config (Some name) qs c vs xs =
    (before : List Asked) × (q : Asked) × (qs ≡ before ++ q ∷ []) × IsSetup config before c vs
    × AreCallsGiven name q c xs

-- the first fault of these files
abbrev pub IsNotCalled : List ℕ → Option (List ℕ) → List Asked → Kind → Type 0
IsNotCalled config None qs f = IsSetupFault config qs f
IsNotCalled config (Some name) qs f =
    IsSetupFault config qs f
    ⊎ ((before : List Asked) × (q : Asked) × (c : Config) × (vs : List Service) × (qs ≡ before ++ q ∷ [])
    × IsSetup config before c vs
    × IsCallsFault name q c f)

-- WHAT REPORTING A RUN DOES: it writes the history's text, whole, then prints the report, and answers how the run ended;
-- or it answers why not all of this was done
abbrev pub ReportsRun : List ℕ → List ℕ → List ℕ → List Written → (List ℕ → Type 0) → RunEnding
    → Result RunEnding Kind → Type 0
ReportsRun log text report ws Prints ending (Ok answered) =
    (ws ≡ kept log text ∷ []) × Prints report × (answered ≡ ending)
ReportsRun log text report ws Prints ending (Err f) = IsUnreported log text ws Prints f

-- WHAT A RUN OF WHAT WAS READ COMES TO: it answers that there is no memory for it, and prints nothing; or the run is
-- reported, with the report on the replay of its history
abbrev pub ComesTo : (Part → Type 0) → Bool → Config → List Service → List OutsideCall → List ℕ → ℕ → List Written
    → (List ℕ → Type 0) → Result RunEnding Kind → Type 0
ComesTo WasShown stops c vs xs log ticks ws Prints r =
    ((ws ≡ []) × Prints [] × IsErrAnd r (λ f. f ≡ NoMemory))
    ⊎ ((k : BootAndHistory) × (whole : Bool) × IsRun WasShown stops c vs ticks xs whole k
    × ReportsRun log (saved_text c.rules k.history) (report_text (replay k).table (replay k).services) ws Prints
    (run_ending c.log ticks xs whole k) r)

-- WHAT `mx run` DOES: it answers why no run is begun, and prints nothing; or, after its files were read, it spares a
-- service's program that the history would be written over; or it runs what was read, and this comes of it
abbrev pub Runs : (Part → Type 0) → Bool → List ℕ → Option (List ℕ) → List ℕ → ℕ → List Asked → List Written
    → (List ℕ → Type 0) → Result RunEnding Kind → Type 0
Runs WasShown stops config events log ticks qs ws Prints r =
    IsErrAnd r (λ f. (ws ≡ []) × Prints [] × IsNotCalled config events qs f)
    ⊎ ((c : Config) × (vs : List Service) × (xs : List OutsideCall) × IsCalled config events qs c vs xs
    × (IsErrAnd r (SparesProgram c log ws Prints)
    ⊎ ((names_program c log ≡ false) × ComesTo WasShown stops c vs xs log ticks ws Prints r)))

-- ---- its replay

-- by the run's configuration, and by the rules of the run
abbrev pub RunsAreHistories : Type 0
RunsAreHistories =
    (c : Config) (vs : List Service) (k : BootAndHistory) → IsRunHistory c vs k
    → IsSaved (saved_text c.rules k.history) c c k.history

-- `mx replay` of this configuration, these services and the text that was written prints the report that the run
-- printed
abbrev pub RunsReplay : Type 0
RunsReplay =
    (c d : Config) (vs : List Service) (k : BootAndHistory) (records : List Record) (how : Replayed)
    (before after : Option (List ℕ))
    → IsRunHistory c vs k → IsSaved (saved_text c.rules k.history) c d records
    → IsReplayPrinted (world_at_boot d vs) records how (λ text. Appends before after text)
    → (how ≡ Whole) × Appends before after (report_text (replay k).table (replay k).services)
