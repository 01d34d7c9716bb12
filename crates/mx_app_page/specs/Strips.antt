-- THE PAGE OF A HISTORY WITH THE STRIP OF A SWEEP (our own): below the rows stands a line for each range of positions.
use Rattle.std.specs.Prelude.{◌≡◌, ◌≤◌, ◌⊎◌, ◌&&◌, ℕ, zero, suc, ◌+◌, if◌then◌else◌, Bool, List, [], ◌++◌, length, Result, Ok, Err}
use Rattle.std.specs.Bool.{beq}
use Rattle.std.specs.Str.{bytes_eq}
use Rattle.mx_machine.specs.declared.history.Record.{Record}
use Rattle.mx_machine.specs.History.{AreAccepted, events_of_history}
use Rattle.mx_walk.specs.declared.progress.Part.{Part}
use Rattle.mx_walk.specs.Parts.{parts_shown}
use Rattle.mx_app_failure.specs.declared.failure.Failure.{Failure as Kind}
use Rattle.mx_app_failure.specs.Failure.{IsWanting, PrintsFront}
use Rattle.mx_app_step.specs.Asked.{Asked}
use Rattle.mx_app_step.specs.Config.{Config}
use Rattle.mx_app_step.specs.Service.{Service}
use Rattle.mx_app_step.specs.declared.records.Replayed.TheVariants as replayed
use Rattle.mx_turns.specs.declared.faults.FaultLine.{FaultLine}
use Rattle.mx_app_turns.specs.Blocks.{count_of}
use Rattle.mx_app_turns.specs.Sweeping.{IsBegun, IsNotBegun, SweepOf, ending_of, is_alike_at, is_full_at, is_refused_at, of, positions_in, text_at}
use Rattle.mx_app_turns.specs.declared.blocks.Total.{Total}
use Rattle.mx_app_turns.specs.declared.sweeping.Swept.{Swept}
use Rattle.mx_app_turns.specs.declared.sweeping.Swept.TheVariants.{Refused}
use Rattle.mx_look_page.specs.Heads.{Run}
use Rattle.mx_look_page.specs.Strips.{Strip, range_text, strip_tail_text}
use Rattle.mx_app_page.specs.Pages.{IsPagePrinted, IsTopBegun, page_top, run_of_files}
use Rattle.mx_app_page.specs.declared.fixed.TheConstants.{BACK}

-- ---- the lines

-- the line of the range that begins at a position, if one does: if it ends otherwise than the position before, or if just
-- one of both ends as without the fault
abbrev pub beginning_text : ℕ → List ℕ → Bool → List ℕ → Bool → List ℕ
beginning_text k before was end alike =
    if bytes_eq before end && beq was alike then [] else range_text k before end alike

-- the lines of the ranges that begin at the n positions after k
abbrev pub later_text : SweepOf → ℕ → ℕ → List ℕ
later_text s zero k = []
later_text s (suc n) k =
    beginning_text (k + 1) (text_at s k) (is_alike_at s k) (text_at s (k + 1)) (is_alike_at s (k + 1)) ++ later_text s n (k + 1)

-- THE LINES of n positions from k on
abbrev pub positions_text : SweepOf → ℕ → ℕ → List ℕ
positions_text s zero k = []
positions_text s (suc n) k = range_text k [] (text_at s k) (is_alike_at s k) ++ later_text s n k

-- what is said of a sweep of the positions from one to another; the fault's file has this name
abbrev pub strip_in : SweepOf → List ℕ → ℕ → ℕ → Strip
strip_in s fault from to =
    record { fault = fault; turns = s.bound; from = from; positions = positions_in s from to }

-- what stands below the lines of positions, after this many rows
abbrev pub strip_back_text : ℕ → Strip → List ℕ
strip_back_text n strip = strip_tail_text n strip ++ BACK.now

-- what stands below the rows, after this many
abbrev pub strip_text : SweepOf → ℕ → Strip → List ℕ
strip_text s n strip = positions_text s strip.positions strip.from ++ strip_back_text n strip

-- THE PAGE of a history that is accepted: its rows, and the lines of positions
abbrev pub swept_page_text : Run → SweepOf → Strip → List ℕ
swept_page_text r s strip = page_top r s.boot [] s.records ++ strip_text s (length s.records) strip

-- ---- what is done

-- WHAT IS PRINTED: the page with the strip; or, if a record is refused, that of those before it, without a strip
abbrev pub IsSweptPagePrinted : Run → SweepOf → List ℕ → ℕ → ℕ → Swept → (List ℕ → Type 0) → Type 0
IsSweptPagePrinted r s fault from to Refused Prints =
    IsPagePrinted (λ first. r) s.boot s.records 0 replayed.Refused Prints
IsSweptPagePrinted r s fault from to how Prints =
    AreAccepted s.boot (events_of_history s.records) × (how ≡ ending_of s from to)
    × Prints (swept_page_text r s (strip_in s fault from to))

-- what is shown: each position, unless a record is refused
abbrev pub ArePositionsShown : SweepOf → ℕ → ℕ → Swept → List Part → Type 0
ArePositionsShown s from to Refused ps = ps ≡ []
ArePositionsShown s from to how ps = let n = positions_in s from to in ps ≡ parts_shown n n

-- WHAT IS PRINTED BEFORE A FAILURE: nothing; or a front of the page of some first records, of which none is refused, that
-- ends above what stands below the rows; or one of the whole page
abbrev pub IsSweptPageBegun : Run → SweepOf → List ℕ → ℕ → ℕ → (List ℕ → Type 0) → Type 0
IsSweptPageBegun r s fault from to Prints =
    Prints [] ⊎ (IsTopBegun (λ first. r) s.boot s.records 0 Prints
    ⊎ ((how : Swept) × IsSweptPagePrinted r s fault from to how (PrintsFront Prints)))

-- WHAT IS DONE OF A HISTORY that was read: its page is printed, and its positions are shown; or memory or standard output
-- failed, after the first positions were shown
abbrev pub IsSweptPageDone : Run → SweepOf → List ℕ → ℕ → ℕ → List Part → (List ℕ → Type 0) → Result Swept Kind → Type 0
IsSweptPageDone r s fault from to ps Prints (Ok how) =
    IsSweptPagePrinted r s fault from to how Prints × ArePositionsShown s from to how ps
IsSweptPageDone r s fault from to ps Prints (Err f) =
    IsWanting f × IsSweptPageBegun r s fault from to Prints
    × ((n : ℕ) × (n ≤ positions_in s from to) × (ps ≡ parts_shown (positions_in s from to) n))

-- WHAT IS DONE, from files' names on: the page of the history with the strip of a sweep, which ends as `mx sweep` does; or
-- the first fault of the files, before which nothing is printed; or why the page isn't finished
abbrev pub PrintsSweptPage : List ℕ → List ℕ → List ℕ → ℕ → ℕ → ℕ → List Asked → List Part → (List ℕ → Type 0)
    → Result Swept Kind → Type 0
PrintsSweptPage config log fault from to n qs ps Prints (Ok how) =
    (c : Config) × (vs : List Service) × (records : List Record) × (said : List FaultLine)
    × IsBegun config log fault qs c vs records said
    × IsSweptPageDone (run_of_files config log 0 c) (of c vs records said n) fault from to ps Prints (Ok how)
PrintsSweptPage config log fault from to n qs ps Prints (Err f) =
    ((ps ≡ []) × Prints [] × IsNotBegun config log fault qs f)
    ⊎ ((c : Config) × (vs : List Service) × (records : List Record) × (said : List FaultLine)
    × IsBegun config log fault qs c vs records said
    × IsSweptPageDone (run_of_files config log 0 c) (of c vs records said n) fault from to ps Prints (Err f))

-- ---- parts of it

-- these are the counts of n positions from k on; blocks aren't asked for
abbrev pub AreCounts : SweepOf → ℕ → ℕ → Total → Type 0
AreCounts s n k total =
    (total.positions ≡ n) × (total.alike ≡ count_of (is_alike_at s) n k)
    × (total.refused ≡ count_of (is_refused_at s) n k) × (total.full ≡ count_of (is_full_at s) n k)
