-- What is done of a command line: of its request, and of the file of sums that it may name (our own).
use Rattle.std.specs.Prelude.{◌≡◌, ◌⊎◌, ℕ, Bool, true, false, List, [], ◌∷◌, ◌++◌, Option, Some, None, Result, Ok, Err, option_map}
use Rattle.std.specs.declared.io.ErrorKind.{ErrorKind}
use Rattle.mx_app_command.specs.Files.{files_read, names_file}
use Rattle.mx_app_command.specs.declared.command_line.CommandLine.{CommandLine}
use Rattle.mx_app_command.specs.declared.command_line.CommandRequest.{CommandRequest}
use Rattle.mx_app_command.specs.declared.command_line.CommandRequest.TheVariants.{Step, Run, Turns, Live}
use Rattle.mx_app_failure.specs.declared.failure.Failure.{Failure as Kind}
use Rattle.mx_app_failure.specs.declared.failure.Failure.TheVariants as failures
use Rattle.mx_app_failure.specs.Failure.{failure_line, status_of}
use Rattle.mx_app_db.specs.Asked.{Asked, file_given, file_missed}
use Rattle.mx_app_db.specs.Written.{Written, kept, unkept}
use Rattle.mx_app_db.specs.Config.{Config}
use Rattle.mx_app_db.specs.Service.{Service}
use Rattle.mx_app_db.specs.Setup.{IsSetup, IsSetupFault}
use Rattle.mx_app_explain.specs.SumsFaults.{fault_line, fault_status, unread_of, unwritten_of}
use Rattle.mx_app_explain.specs.Sums.{first_other, machine_sums, sums_text}
use Rattle.mx_app_explain.specs.declared.sums_fault.SumsFault.{SumsFault}
use Rattle.mx_app_explain.specs.declared.sums_fault.SumsFault.TheVariants.{NameTaken, NoMemory, OtherMachine}
use Rattle.mx_app_explain.specs.declared.sums.MachinePart.{MachinePart}
use Rattle.mx_app_explain.specs.declared.sums.PartSum.{PartSum}
use Rattle.mx_walk.specs.declared.progress.Part.{Part}
use Rattle.mx_app.specs.Deeds.{Deeds, IsIdle}
use Rattle.mx_app.specs.Requests.{Performs}
use Rattle.mx_app.specs.Sparing.{SparesSums}
use Rattle.mx_app.specs.declared.performing.Done.{Done}
use Rattle.mx_app.specs.declared.summing.LineFailure.{LineFailure}
use Rattle.mx_app.specs.declared.summing.LineFailure.TheVariants.{Request, Sums}

abbrev pub line_failure_status : LineFailure → ℕ
line_failure_status (Request f) = status_of f
line_failure_status (Sums f) = fault_status f

abbrev pub line_failure_line : LineFailure → List ℕ
line_failure_line (Request f) = failure_line f
line_failure_line (Sums f) = fault_line f

-- ---- requests

-- the configuration of its machine
abbrev pub first_name : CommandRequest → List ℕ
first_name r = (files_read r).first.name

-- a request that makes a history has sums written; all others have them compared
abbrev pub writes_sums : CommandRequest → Bool
writes_sums (Step config script save numbered) = true
writes_sums (Run config log ticks events stop) = true
writes_sums (Turns config log ticks events bound stop) = true
writes_sums (Live config log raw hertz stop) = true
writes_sums r = false

-- ---- the sums of the machine

-- there are none: the first fault of the configuration and the programs; or, if there is none, out of memory
abbrev pub IsUnsummed : List ℕ → List Asked → Kind → Type 0
IsUnsummed config qs f =
    IsSetupFault config qs f ⊎ ((c : Config) × (vs : List Service) × IsSetup config qs c vs × (f ≡ failures.NoMemory))

-- the file of this name was asked for, and has these sums; or it is missed, has others, or memory is out
abbrev pub ComparesSums : List ℕ → List PartSum → Asked → Result (Unit {0}) SumsFault → Type 0
ComparesSums name sums q (Ok u) = q ≡ file_given name (sums_text sums)
ComparesSums name sums q (Err f) =
    ((kind : ErrorKind) × (q ≡ file_missed name kind) × (f ≡ unread_of kind))
    ⊎ (((text : List ℕ) × (part : MachinePart) × (q ≡ file_given name text) × (first_other sums text ≡ Some part)
    × (f ≡ OtherMachine part))
    ⊎ ((text : List ℕ) × (q ≡ file_given name text) × (f ≡ NoMemory)))

-- the machine has the sums of the file; or it has none, or the file has others
abbrev pub IsCompared : List ℕ → List ℕ → List Asked → Result (Unit {0}) LineFailure → Type 0
IsCompared config name qs (Ok u) =
    (before : List Asked) × (c : Config) × (vs : List Service) × IsSetup config before c vs
    × (qs ≡ before ++ file_given name (sums_text (machine_sums c vs)) ∷ [])
IsCompared config name qs (Err (Request f)) = IsUnsummed config qs f
IsCompared config name qs (Err (Sums f)) =
    (before : List Asked) × (q : Asked) × (c : Config) × (vs : List Service) × IsSetup config before c vs
    × (qs ≡ before ++ q ∷ [])
    × ComparesSums name (machine_sums c vs) q (Err f)

-- the sums were written to the file of this name, or they weren't
abbrev pub WritesSums : List ℕ → List ℕ → Written → Result (Unit {0}) SumsFault → Type 0
WritesSums name text w (Ok u) = w ≡ kept name text
WritesSums name text w (Err f) = (kind : ErrorKind) × (w ≡ unkept name text kind) × (f ≡ unwritten_of kind)

-- ---- the request, and the sums before or after it

abbrev pub by_request : Result Done Kind → Result Done LineFailure
by_request (Ok done) = Ok done
by_request (Err f) = Err (Request f)

-- the request is done of a machine that has the file's sums, and of no other
abbrev pub PerformsCompared : (Part → Type 0) → CommandRequest → Bool → List ℕ → Bool → Deeds → (List ℕ → Type 0)
    → Result Done LineFailure → Type 0
PerformsCompared WasShown request force name asks did Prints r =
    ((f : LineFailure) × IsIdle did Prints × IsCompared (first_name request) name did.asked (Err f) × (r ≡ Err f))
    ⊎ ((before after : List Asked) × (d : Result Done Kind) × (did.asked ≡ before ++ after)
    × IsCompared (first_name request) name before (Ok tt)
    × Performs WasShown request force asks (record did { asked = after }) Prints d × (r ≡ by_request d))

-- what was written after a request, and how the line ends: the sums of this text if the request is done, and nothing if
-- it failed
abbrev pub IsWrittenAfter : List ℕ → List ℕ → List Written → Result Done Kind → Result Done LineFailure → Type 0
IsWrittenAfter name text ws (Err f) r = (ws ≡ []) × (r ≡ Err (Request f))
IsWrittenAfter name text ws (Ok done) r =
    (w : Written) × (ws ≡ w ∷ [])
    × ((WritesSums name text w (Ok tt) × (r ≡ Ok done))
    ⊎ ((f : SumsFault) × WritesSums name text w (Err f) × (r ≡ Err (Sums f))))

-- the request is done of a machine that has sums, and then they are written
abbrev pub PerformsSummed : (Part → Type 0) → CommandRequest → Bool → List ℕ → Bool → Deeds → (List ℕ → Type 0)
    → Result Done LineFailure → Type 0
PerformsSummed WasShown request force name asks did Prints r =
    ((f : Kind) × IsIdle did Prints × IsUnsummed (first_name request) did.asked f × (r ≡ Err (Request f)))
    ⊎ ((before after : List Asked) × (c : Config) × (vs : List Service) × (first last : List Written)
    × (d : Result Done Kind)
    × (did.asked ≡ before ++ after) × (did.written ≡ first ++ last) × IsSetup (first_name request) before c vs
    × Performs WasShown request force asks (record did { asked = after; written = first }) Prints d
    × IsWrittenAfter name (sums_text (machine_sums c vs)) last d r)

-- the same, if the file of sums isn't spared
abbrev pub PerformsSparing : (Part → Type 0) → CommandRequest → Bool → List ℕ → Bool → Deeds → (List ℕ → Type 0)
    → Result Done LineFailure → Type 0
PerformsSparing WasShown request force name asks did Prints r =
    ((f : SumsFault) × IsIdle did Prints × SparesSums name force did.asked (Err f) × (r ≡ Err (Sums f)))
    ⊎ ((before after : List Asked) × (did.asked ≡ before ++ after) × SparesSums name force before (Ok tt)
    × PerformsSummed WasShown request force name asks (record did { asked = after }) Prints r)

-- with a file of sums: another word may not name it
abbrev pub PerformsWith : (Part → Type 0) → CommandRequest → Bool → List ℕ → Bool → Deeds → (List ℕ → Type 0)
    → Result Done LineFailure → Type 0
PerformsWith WasShown request force name asks did Prints r =
    ((names_file request name ≡ true) × (did.asked ≡ []) × IsIdle did Prints × (r ≡ Err (Sums NameTaken)))
    ⊎ (((names_file request name ≡ false) × (writes_sums request ≡ true)
    × PerformsSparing WasShown request force name asks did Prints r)
    ⊎ ((names_file request name ≡ false) × (writes_sums request ≡ false)
    × PerformsCompared WasShown request force name asks did Prints r))

abbrev pub PerformsBy : (Part → Type 0) → CommandRequest → Bool → Option (List ℕ) → Bool → Deeds → (List ℕ → Type 0)
    → Result Done LineFailure → Type 0
PerformsBy WasShown request force None asks did Prints r =
    (d : Result Done Kind) × Performs WasShown request force asks did Prints d × (r ≡ by_request d)
PerformsBy WasShown request force (Some name) asks did Prints r =
    PerformsWith WasShown request force name asks did Prints r

-- WHAT IS DONE OF A COMMAND LINE, by what its request does
abbrev pub PerformsLine : (Part → Type 0) → CommandLine → Bool → Deeds → (List ℕ → Type 0) → Result Done LineFailure
    → Type 0
PerformsLine WasShown line asks did Prints r =
    PerformsBy WasShown line.request line.force (option_map (λ s. s.now) line.sums) asks did Prints r
