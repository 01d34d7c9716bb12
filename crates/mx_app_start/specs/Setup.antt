-- What a machine is started from, by what a reader was asked for (our own).
use Rattle.std.specs.Prelude.{◌≡◌, ◌⊎◌, ℕ, List, [], ◌∷◌, ◌++◌, Err, Option, Some, None, String, length, slice_get, string_bytes}
use Rattle.std.specs.declared.alloc.Global.{Global}
use Rattle.std.specs.Str.{IsUtf8}
use Rattle.std.specs.declared.io.ErrorKind.{ErrorKind}
use Rattle.mx_aout.specs.declared.program.FileError.{FileError}
use Rattle.mx_aout.specs.File.{FileIs, ReadsFile, refusal_of}
use Rattle.mx_text.specs.declared.error.BootError.{BootError}
use Rattle.mx_boot.specs.Config.{Config}
use Rattle.mx_boot.specs.ServiceLine.{ServiceLine}
use Rattle.mx_machine.specs.Service.{Service}
use Rattle.mx_boot.specs.Lines.{IsConfig, TellsConfigFault}
use Rattle.mx_app_failure.specs.declared.failure.Failure.{Failure}
use Rattle.mx_app_failure.specs.declared.failure.About.{About}
use Rattle.mx_app_failure.specs.declared.failure.About.TheVariants as about
use Rattle.mx_app_failure.specs.declared.failure.FileProblem.{FileProblem}
use Rattle.mx_app_failure.specs.declared.failure.Failure.TheVariants.{NoMemory}
use Rattle.mx_app_failure.specs.Failure.{IsMisstated, failure_if, problem_of_bytes, problem_of_reading, problem_of_refusal}
use Rattle.mx_app_start.specs.Asked.{Asked, file_given, file_missed}

-- ---- one file

-- the file that has the name was missed, with this problem
abbrev pub IsFileMissed : List ℕ → Asked → Option FileProblem → Type 0
IsFileMissed name q p = (kind : ErrorKind) × (q ≡ file_missed name kind) × (p ≡ problem_of_reading kind)

-- its bytes are a text
abbrev pub IsTextGiven : List ℕ → Asked → List ℕ → Type 0
IsTextGiven name q text = (q ≡ file_given name text) × ∥ IsUtf8 text ∥₁

-- why they are none
abbrev pub IsNoText : List ℕ → Asked → Option FileProblem → Type 0
IsNoText name q p =
    IsFileMissed name q p
    ⊎ ((bytes : List ℕ) × (q ≡ file_given name bytes) × (¬ (IsUtf8 bytes)) × (p ≡ Some (problem_of_bytes bytes)))

-- the failure says of which file, by what it is to the command
abbrev pub IsNoTextGiven : About → List ℕ → Asked → Failure → Type 0
IsNoTextGiven about name q f = (p : Option FileProblem) × IsNoText name q p × (f ≡ failure_if p about)

-- a text with this fault, as `Tells` has it
abbrev pub IsTextFaulty : (List ℕ → BootError → Type 0) → About → List ℕ → Asked → Failure → Type 0
IsTextFaulty Tells about name q f =
    (text : List ℕ) × (e : BootError) × IsTextGiven name q text × Tells text e × IsMisstated e about text f

-- ---- a configuration

-- the file's text is one
abbrev pub IsConfigRead : List ℕ → Asked → Config → Type 0
IsConfigRead name q config = (text : List ℕ) × IsTextGiven name q text × IsConfig text config

-- why it is none: the file is missed or no text, or its first line at fault
abbrev pub IsConfigFault : List ℕ → Asked → Failure → Type 0
IsConfigFault name q f = IsNoTextGiven about.Config name q f ⊎ IsTextFaulty TellsConfigFault about.Config name q f

-- ---- services

-- The service of a line and of a program's file.
pub record IsServiceOf (line : ServiceLine) (bytes : List ℕ) (v : Service) : Type 0 where
  pub program : FileIs bytes v.program
  pub name : v.name ≡ line.name
  pub terms : v.terms ≡ line.terms

-- the line's file was given, and the service is made of both
abbrev pub IsServiceRead : ServiceLine → Asked → Service → Type 0
IsServiceRead line q v = (bytes : List ℕ) × (q ≡ file_given line.file bytes) × IsServiceOf line bytes v

-- why the line's file gives no program: it is missed or refused, or out of memory for the program that it is
abbrev pub IsLineRefused : ServiceLine → Asked → Option FileProblem → Type 0
IsLineRefused line q p =
    IsFileMissed line.file q p
    ⊎ ((bytes : List ℕ) × (e : FileError) × (q ≡ file_given line.file bytes)
    × ReadsFile (refusal_of bytes) bytes (Err e) × (p ≡ problem_of_refusal bytes e))

-- each line's file was asked for, in order
abbrev pub AreServicesRead : List ServiceLine → List Asked → List Service → Type 0
AreServicesRead [] [] [] = Unit {0}
AreServicesRead (l ∷ ls) (q ∷ qs) (v ∷ vs) = IsServiceRead l q v × AreServicesRead ls qs vs
AreServicesRead _ _ _ = ⊥

-- the first line that gives no program has n above it; or out of memory for the list of the services of some lines,
-- each of which was read
abbrev pub IsFirstRefused : List ServiceLine → List Asked → ℕ → Option FileProblem → Type 0
IsFirstRefused lines qs n p =
    ((above below : List ServiceLine) × (line : ServiceLine) × (before : List Asked) × (q : Asked)
    × (services : List Service)
    × (lines ≡ above ++ line ∷ below) × (length above ≡ n) × (qs ≡ before ++ q ∷ [])
    × AreServicesRead above before services × IsLineRefused line q p)
    ⊎ ((above below : List ServiceLine) × (services : List Service)
    × (lines ≡ above ++ below) × AreServicesRead above qs services × (p ≡ None))

-- the failure has the name of the program's file
abbrev pub IsServiceFailure : List ℕ → Option FileProblem → Failure → Type 0
IsServiceFailure name None f = f ≡ NoMemory
IsServiceFailure name (Some p) f =
    (s : String Global) × (string_bytes s ≡ name) × (f ≡ failure_if (Some p) (about.Service s))

abbrev pub IsServicesFault : List ServiceLine → List Asked → Failure → Type 0
IsServicesFault lines qs f =
    (n : ℕ) × (p : Option FileProblem) × (line : ServiceLine)
    × IsFirstRefused lines qs n p × (slice_get lines n ≡ Some line) × IsServiceFailure line.file p f

-- ---- a configuration and its services

abbrev pub IsSetup : List ℕ → List Asked → Config → List Service → Type 0
IsSetup name qs config services =
    (q : Asked) × (rest : List Asked) × (text : List ℕ)
    × (qs ≡ q ∷ rest) × IsTextGiven name q text × IsConfig text config × AreServicesRead config.lines rest services

-- the first fault: the configuration's, else that of a service's file
abbrev pub IsSetupFault : List ℕ → List Asked → Failure → Type 0
IsSetupFault name qs f =
    ((q : Asked) × (qs ≡ q ∷ []) × IsConfigFault name q f)
    ⊎ ((q : Asked) × (rest : List Asked) × (text : List ℕ) × (config : Config)
    × (qs ≡ q ∷ rest) × IsTextGiven name q text × IsConfig text config × IsServicesFault config.lines rest f)

-- ---- and the text that drives the machine

-- the text after them says this, as `Says` has it, and the machine boots by this configuration
abbrev pub IsStart : {L : Type 0} → (List ℕ → Config → Config → List L → Type 0) → List ℕ → List ℕ → List Asked → Config
    → List Service → List L → Type 0
IsStart Says config_name name qs config services lines =
    (before : List Asked) × (q : Asked) × (text : List ℕ) × (read : Config)
    × (qs ≡ before ++ q ∷ []) × IsSetup config_name before read services × IsTextGiven name q text
    × Says text read config lines

-- the first fault of all
abbrev pub IsFirstFault : (List ℕ → Config → BootError → Type 0) → List ℕ → List ℕ → List Asked → Failure → Type 0
IsFirstFault Tells config_name name qs f =
    IsSetupFault config_name qs f
    ⊎ ((before : List Asked) × (q : Asked) × (config : Config) × (services : List Service)
    × (qs ≡ before ++ q ∷ []) × IsSetup config_name before config services
    × (IsNoTextGiven about.Course name q f ⊎ IsTextFaulty (λ text e. Tells text config e) about.Course name q f))

-- no machine was started: that fault; or, where there is none, out of memory
abbrev pub IsNotStarted : {L : Type 0} → (List ℕ → Config → Config → List L → Type 0)
    → (List ℕ → Config → BootError → Type 0) → List ℕ → List ℕ → List Asked → Failure → Type 0
IsNotStarted {L} Says Tells config_name name qs f =
    IsFirstFault Tells config_name name qs f
    ⊎ ((c : Config) × (services : List Service) × (said : List L) × IsStart Says config_name name qs c services said
    × (f ≡ NoMemory))
