-- What is written over: a file that is empty, or that begins as what is written does; any other is spared (our own).
use Rattle.std.specs.Prelude.{◌≡◌, ◌⊎◌, ◌==◌, ◌&&◌, ◌||◌, not, ℕ, Bool, true, false, if◌then◌else◌, List, [], ◌∷◌, ◌++◌, codes, drop, length, nat_eq, nat_lt, Some, Result, Ok, Err, slice_index, take}
use Rattle.std.specs.Fmt.{decimal}
use Rattle.std.specs.List.{list_all, starts_with}
use Rattle.std.specs.Char.{is_ascii_hexdigit}
use Rattle.std.specs.declared.io.ErrorKind.{ErrorKind}
use Rattle.mx_app_command.specs.declared.files.FileKind.{FileKind}
use Rattle.mx_app_command.specs.declared.files.FileKind.TheVariants as kinds
use Rattle.mx_app_failure.specs.Failure.{failure_if, problem_of_reading}
use Rattle.mx_app_failure.specs.declared.failure.About.TheVariants.{Written as FileWritten}
use Rattle.mx_app_failure.specs.declared.failure.Failure.{Failure as Kind}
use Rattle.mx_app_failure.specs.declared.failure.Failure.TheVariants.{NoMemory}
use Rattle.mx_app_failure.specs.declared.failure.FileProblem.TheVariants.{OtherKind}
use Rattle.mx_app_start.specs.Asked.{Asked, file_given, file_missed}
use Rattle.mx_boot.specs.Log.{begins_history}

-- ---- by its first bytes

-- a program: the magic number 01 03, the flags A_EXEC, A_SEP or both, and the processor, the 80386
abbrev pub begins_program : List ℕ → Bool
begins_program b =
    nat_lt 3 (length b) && slice_index b 0 == 1 && slice_index b 1 == 3
    && (slice_index b 2 == 0x10 || slice_index b 2 == 0x20 || slice_index b 2 == 0x30) && slice_index b 3 == 0x10

-- sums: the line of the configuration's, in the form of `sha256sum`
abbrev pub begins_sums : List ℕ → Bool
begins_sums b =
    if nat_lt (length b) 64 then false
    else list_all is_ascii_hexdigit (take 64 b) && starts_with nat_eq (drop 64 b) (codes "  configuration\n")

abbrev pub begins_as : FileKind → List ℕ → Bool
begins_as kinds.Program front = begins_program front
begins_as kinds.History front = begins_history front
begins_as kinds.Sums front = begins_sums front

-- WHICH FILE IS SPARED where one of this kind is to be written
abbrev pub is_spared : FileKind → List ℕ → Bool
is_spared kind front = not (length front == 0) && not (begins_as kind front)

-- ---- what is asked, and what comes of it

-- the first bytes of the file were given, and it isn't spared
abbrev pub IsFree : FileKind → List ℕ → List Asked → Type 0
IsFree kind name qs = (front : List ℕ) × (qs ≡ file_given name front ∷ []) × (is_spared kind front ≡ false)

-- they were given, and it is
abbrev pub IsSpared : FileKind → List ℕ → List Asked → Type 0
IsSpared kind name qs = (front : List ℕ) × (qs ≡ file_given name front ∷ []) × (is_spared kind front ≡ true)

-- one file, by its name
abbrev pub SparesName : FileKind → List ℕ → List Asked → Result (Unit {0}) Kind → Type 0
SparesName kind name qs r =
    (IsFree kind name qs × (r ≡ Ok tt))
    ⊎ ((IsSpared kind name qs × (r ≡ Err (failure_if (Some OtherKind) FileWritten)))
    ⊎ ((k : ErrorKind) × (qs ≡ file_missed name k ∷ []) × (r ≡ Err (failure_if (problem_of_reading k) FileWritten))))

-- one of several, by its number, or memory is out before its name is made
abbrev pub SparesNumbered : FileKind → List ℕ → ℕ → List Asked → Result (Unit {0}) Kind → Type 0
SparesNumbered kind name number qs r =
    SparesName kind (name ++ decimal number) qs r ⊎ ((qs ≡ []) × (r ≡ Err NoMemory))
