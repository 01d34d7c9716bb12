-- What the subcommands on one program do, by what was read and written (our own).
use Rattle.std.specs.Prelude.{◌≡◌, ◌⊎◌, ℕ, List, [], ◌∷◌, Result, Ok, Err, OnOk}
use Rattle.std.specs.declared.io.ErrorKind.{ErrorKind}
use Rattle.mx_aout.specs.File.{refusal_of}
use Rattle.mx_app_failure.specs.declared.failure.About.{About}
use Rattle.mx_app_failure.specs.declared.failure.About.TheVariants.{Program, Source}
use Rattle.mx_app_failure.specs.declared.failure.Failure.{Failure as Kind}
use Rattle.mx_app_failure.specs.Failure.{Tells, failure_if, problem_of_reading, unwritten_of}
use Rattle.mx_app_program.specs.Assembling.{IsAssembledFile, TellsText}
use Rattle.mx_app_db.specs.Asked.{Asked, file_given, file_missed}
use Rattle.mx_app_db.specs.Written.{Written}

-- the file, which is this to the command, was missed, and the reason is the failure
abbrev pub IsMissing : About → List ℕ → Asked → Result (Unit {0}) Kind → Type 0
IsMissing about name q r =
    (kind : ErrorKind) × (q ≡ file_missed name kind) × (r ≡ Err (failure_if (problem_of_reading kind) about))

-- `one`, `dis` and `nm`: a file that is missed; or the failure of the one that was given; without a failure a text that
-- it has is printed
abbrev pub ShowsFile : (List ℕ → List ℕ → Type 0) → List ℕ → Asked → (List ℕ → Type 0) → Result (Unit {0}) Kind → Type 0
ShowsFile Has name q Prints r =
    IsMissing Program name q r
    ⊎ ((bytes : List ℕ) × (q ≡ file_given name bytes) × Tells bytes (refusal_of bytes) r
    × OnOk r ((text : List ℕ) × Has bytes text × Prints text))

-- what comes of a file that was to be written
abbrev pub after_write : Result (Unit {0}) ErrorKind → Result (Unit {0}) Kind
after_write (Ok u) = Ok u
after_write (Err kind) = Err (unwritten_of kind)

-- a text's first fault, and nothing is written; or the file of its program is, and nothing else
abbrev pub IsAssembling : List ℕ → List ℕ → List Written → Result (Unit {0}) Kind → Type 0
IsAssembling file text ws r =
    ((f : Kind) × TellsText text f × (ws ≡ []) × (r ≡ Err f))
    ⊎ ((w : Written) × (ws ≡ w ∷ []) × (w.name ≡ file) × IsAssembledFile text w.bytes × (r ≡ after_write w.answer))

-- `as`: a text that is missed; or what comes of the one that was given
abbrev pub Assembles : List ℕ → List ℕ → List Asked → List Written → Result (Unit {0}) Kind → Type 0
Assembles text file qs ws r =
    (q : Asked) × (qs ≡ q ∷ [])
    × (((ws ≡ []) × IsMissing Source text q r)
    ⊎ ((source : List ℕ) × (q ≡ file_given text source) × IsAssembling file source ws r))
