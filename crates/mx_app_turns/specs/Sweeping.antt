-- What `mx sweep` reads, prints and writes (our own).
use Rattle.std.specs.Prelude.{◌≡◌, ◌≤◌, ◌⊎◌, ◌+◌, ◌-◌, ◌==◌, if◌then◌else◌, ℕ, Bool, true, false, List, [], ◌∷◌, ◌++◌, length, min, is_some, Option, Some, None, Result, Ok, Err}
use Rattle.mx_text.specs.Lines.{lines}
use Rattle.mx_machine.specs.Boot.{world_at_boot}
use Rattle.mx_machine.specs.declared.events.Refusal.{Refusal}
use Rattle.mx_machine.specs.declared.history.Record.{Record}
use Rattle.mx_machine.specs.History.{AreAccepted, events_of_history}
use Rattle.mx_machine.specs.World.{World}
use Rattle.mx_walk.specs.declared.progress.Part.{Part}
use Rattle.mx_walk.specs.Parts.{parts_shown}
use Rattle.mx_app_failure.specs.declared.failure.Failure.{Failure as Kind}
use Rattle.mx_app_failure.specs.declared.failure.About.TheVariants.{Fault}
use Rattle.mx_app_failure.specs.Failure.{IsWanting}
use Rattle.mx_app_step.specs.Asked.{Asked}
use Rattle.mx_app_step.specs.Config.{Config}
use Rattle.mx_app_step.specs.Service.{Service}
use Rattle.mx_app_step.specs.Course.{IsSaved, TellsSaved}
use Rattle.mx_app_step.specs.Kept.{IsUnwritten, text_kept}
use Rattle.mx_app_step.specs.Programs.{names_program, over_program}
use Rattle.mx_app_step.specs.Records.{IsReplayPrinted}
use Rattle.mx_app_step.specs.Setup.{IsNoTextGiven, IsNotStarted, IsStart, IsTextFaulty, IsTextGiven}
use Rattle.mx_app_step.specs.Written.{Written, kept}
use Rattle.mx_app_step.specs.declared.records.Replayed.TheVariants as replayed
use Rattle.mx_turns.specs.declared.faults.FaultLine.{FaultLine}
use Rattle.mx_turns.specs.declared.trials.Findings.{Findings}
use Rattle.mx_turns.specs.Findings.{findings_of}
use Rattle.mx_turns.specs.Sweep.{Run, trial_text, run_of}
use Rattle.mx_app_turns.specs.Blocks.{Positions, blocks, count_of, swept_text}
use Rattle.mx_app_turns.specs.declared.blocks.Total.{Total}
use Rattle.mx_app_turns.specs.declared.sweeping.Swept.{Swept}
use Rattle.mx_app_turns.specs.declared.sweeping.Swept.TheVariants.{Alike, Differs, Nothing, Refused}
use Rattle.mx_app_turns.specs.declared.nothing_tested.Untested.{Untested}
use Rattle.mx_app_turns.specs.Commented.{AreSaid, TellsUnsaid}
use Rattle.mx_app_turns.specs.FaultLines.{fault_line}
use Rattle.mx_app_turns.specs.Untested.{untested_by}

-- ---- what is read

-- the configuration, its services, the history and then the fault were read
abbrev pub IsBegun : List ℕ → List ℕ → List ℕ → List Asked → Config → List Service → List Record → List FaultLine
    → Type 0
IsBegun config log fault qs c vs records said =
    (before : List Asked) × (q : Asked) × (text : List ℕ) × (qs ≡ before ++ q ∷ [])
    × IsStart IsSaved config log before c vs records
    × IsTextGiven fault q text × AreSaid (fault_line c.lines) (lines text) said

-- the first fault of these files: no machine was started; or the fault's file is missed or no text, or a line of it
-- says nothing
abbrev pub IsNotBegun : List ℕ → List ℕ → List ℕ → List Asked → Kind → Type 0
IsNotBegun config log fault qs f =
    IsNotStarted IsSaved TellsSaved config log qs f
    ⊎ ((before : List Asked) × (q : Asked) × (c : Config) × (vs : List Service) × (records : List Record)
    × (qs ≡ before ++ q ∷ [])
    × IsStart IsSaved config log before c vs records
    × (IsNoTextGiven Fault fault q f
    ⊎ IsTextFaulty (λ text e. TellsUnsaid (fault_line c.lines) (lines text) e) Fault fault q f))

-- the program of a service would be written over
abbrev pub saves_program : Config → Option (List ℕ) → Bool
saves_program c None = false
saves_program c (Some save) = names_program c save

-- ---- what is swept

-- What a sweep is of: a machine at boot, its first actor that is no processor, a history, a fault, and the most turns.
pub record SweepOf : Type 0 where
  pub boot : World
  pub other : ℕ
  pub records : List Record
  pub fault : List FaultLine
  pub bound : ℕ

-- the run with the fault at a position, and the run without it
abbrev pub run_at : SweepOf → ℕ → Run
run_at s k = run_of s.boot s.other s.records s.bound s.fault k

abbrev pub run_without : SweepOf → ℕ → Run
run_without s k = run_of s.boot s.other s.records s.bound [] k

abbrev pub text_at : SweepOf → ℕ → List ℕ
text_at s k = trial_text (run_at s k)

-- what a position tells of the fault
abbrev pub findings_at : SweepOf → ℕ → Findings
findings_at s k = findings_of (run_at s k) (run_without s k)

abbrev pub is_alike_at : SweepOf → ℕ → Bool
is_alike_at s k = (findings_at s k).is_alike

-- each line of the fault is refused there, the first for this reason
abbrev pub refusal_at : SweepOf → ℕ → Option Refusal
refusal_at s k = (findings_at s k).refusal

abbrev pub is_refused_at : SweepOf → ℕ → Bool
is_refused_at s k = is_some (refusal_at s k)

abbrev pub is_full_at : SweepOf → ℕ → Bool
is_full_at s k = (findings_at s k).is_full

-- how many positions there are from one to another: the last of a history is the number of its records
abbrev pub positions_in : SweepOf → ℕ → ℕ → ℕ
positions_in s from to = (min to (length s.records) + 1) - from

-- the blocks of n positions from k on
abbrev pub blocks_at : SweepOf → ℕ → ℕ → List Positions
blocks_at s n k = blocks (text_at s) (is_alike_at s) n k

-- what is counted of them
abbrev pub total_of : SweepOf → ℕ → ℕ → Total
total_of s n k = record {
  positions = n;
  blocks = length (blocks_at s n k);
  alike = count_of (is_alike_at s) n k;
  refused = count_of (is_refused_at s) n k;
  full = count_of (is_full_at s) n k;
}

-- what is counted of the positions from one to another
abbrev pub total_in : SweepOf → ℕ → ℕ → Total
total_in s from to = total_of s (positions_in s from to) from

-- what is printed of them
abbrev pub sweep_text : SweepOf → ℕ → ℕ → List ℕ
sweep_text s from to = swept_text (text_at s) (is_alike_at s) (positions_in s from to) from

-- the text that may be saved: the history of the last one's run
abbrev pub last_text : SweepOf → ℕ → List ℕ
last_text s to = text_kept (run_at s (min to (length s.records))).kernel

-- it is saved if a file is named for it and a position was swept
abbrev pub saved_if : List ℕ → ℕ → Option (List ℕ) → List Written
saved_if text n None = []
saved_if text n (Some name) = if n == 0 then [] else kept name text ∷ []

-- why it isn't written
abbrev pub IsUnsaved : List ℕ → Option (List ℕ) → List Written → Kind → Type 0
IsUnsaved text None ws f = ⊥
IsUnsaved text (Some name) ws f = IsUnwritten name text ws f

-- nothing was tested; or each position has the result that it has without the fault, or one hasn't
abbrev pub ended : Option Untested → Total → Swept
ended (Some why) total = Nothing why
ended None total = if total.alike == total.positions then Alike else Differs

-- HOW A SWEEP ENDS, by what was swept
abbrev pub ending_of : SweepOf → ℕ → ℕ → Swept
ending_of s from to =
    ended (untested_by (length s.fault) from to (total_in s from to) (refusal_at s from)) (total_in s from to)

-- what was shown of all positions; or, if the sweep failed, of the first n
abbrev pub IsShown : {X : Type 0} → List Part → List Part → ℕ → Result X Kind → Type 0
IsShown before after all (Ok x) = after ≡ before ++ parts_shown all all
IsShown before after all (Err f) = (n : ℕ) × (n ≤ all) × (after ≡ before ++ parts_shown all n)

-- WHAT IS DONE OF A HISTORY: a refused event of it is printed; or its positions are swept, shown and printed, and a
-- history is saved
abbrev pub IsSweptThrough : SweepOf → ℕ → ℕ → Option (List ℕ) → List Written → List Part → (List ℕ → Type 0) → Swept
    → Type 0
IsSweptThrough s from to save ws ps Prints Refused =
    (ws ≡ []) × (ps ≡ []) × IsReplayPrinted s.boot s.records replayed.Refused Prints
IsSweptThrough s from to save ws ps Prints how =
    (let n = positions_in s from to in ps ≡ parts_shown n n) × AreAccepted s.boot (events_of_history s.records)
    × (how ≡ ending_of s from to)
    × Prints (sweep_text s from to) × (ws ≡ saved_if (last_text s to) (positions_in s from to) save)

-- why it isn't finished, after it was read: memory or standard output; or the file that is saved
abbrev pub IsUntold : SweepOf → ℕ → ℕ → Option (List ℕ) → List Written → List Part → Kind → Type 0
IsUntold s from to save ws ps f =
    (n : ℕ) × (n ≤ positions_in s from to) × (ps ≡ parts_shown (positions_in s from to) n)
    × (((ws ≡ []) × IsWanting f) ⊎ IsUnsaved (last_text s to) save ws f)

abbrev pub of : Config → List Service → List Record → List FaultLine → ℕ → SweepOf
of c vs records said n =
    record { boot = world_at_boot c vs; other = c.cpus; records = records; fault = said; bound = n }

-- WHAT `mx sweep` DOES
abbrev pub Sweeps : List ℕ → List ℕ → List ℕ → Option (List ℕ) → ℕ → ℕ → ℕ → List Asked → List Written → List Part
    → (List ℕ → Type 0) → Result Swept Kind → Type 0
Sweeps config log fault save from to n qs ws ps Prints (Ok how) =
    (c : Config) × (vs : List Service) × (records : List Record) × (said : List FaultLine)
    × IsBegun config log fault qs c vs records said
    × (saves_program c save ≡ false) × IsSweptThrough (of c vs records said n) from to save ws ps Prints how
Sweeps config log fault save from to n qs ws ps Prints (Err f) =
    ((ws ≡ []) × (ps ≡ []) × Prints [] × IsNotBegun config log fault qs f)
    ⊎ (((c : Config) × (vs : List Service) × (records : List Record) × (said : List FaultLine)
    × IsBegun config log fault qs c vs records said
    × (saves_program c save ≡ true) × (ws ≡ []) × (ps ≡ []) × Prints [] × (f ≡ over_program))
    ⊎ ((c : Config) × (vs : List Service) × (records : List Record) × (said : List FaultLine)
    × IsBegun config log fault qs c vs records said
    × (saves_program c save ≡ false) × IsUntold (of c vs records said n) from to save ws ps f))
