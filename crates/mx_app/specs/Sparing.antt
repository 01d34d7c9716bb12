-- Which files of a request are spared (our own).
use Rattle.std.specs.Prelude.{◌≡◌, ◌⊎◌, ℕ, Bool, true, false, List, [], ◌∷◌, Option, Some, None, Result, Ok, Err}
use Rattle.std.specs.declared.io.ErrorKind.{ErrorKind}
use Rattle.mx_app_command.specs.Files.{FileWord, file_written, writes_several, written_kind}
use Rattle.mx_app_command.specs.declared.command_line.CommandRequest.{CommandRequest}
use Rattle.mx_app_command.specs.declared.files.FileKind.{FileKind}
use Rattle.mx_app_command.specs.declared.files.FileKind.TheVariants as kinds
use Rattle.mx_app_start.specs.Asked.{Asked, file_missed}
use Rattle.mx_app_explain.specs.SumsFaults.{unread_of}
use Rattle.mx_app_explain.specs.declared.sums_fault.SumsFault.{SumsFault}
use Rattle.mx_app_explain.specs.declared.sums_fault.SumsFault.TheVariants as faults
use Rattle.mx_app_failure.specs.declared.failure.Failure.{Failure as Kind}
use Rattle.mx_app_spare.specs.Sparing.{IsFree, IsSpared, SparesName, SparesNumbered}

-- the file of a request, which may write none, or be forced to write over any
abbrev pub file_spared : CommandRequest → Bool → Option FileWord
file_spared request true = None
file_spared request false = file_written request

-- the first of several files of a name, or the one that has it
abbrev pub SparesFirst : Bool → FileKind → List ℕ → List Asked → Result (Unit {0}) Kind → Type 0
SparesFirst true kind name qs r = SparesNumbered kind name 1 qs r
SparesFirst false kind name qs r = SparesName kind name qs r

abbrev pub SparesWord : FileKind → Bool → Option FileWord → List Asked → Result (Unit {0}) Kind → Type 0
SparesWord kind several None qs r = (qs ≡ []) × (r ≡ Ok tt)
SparesWord kind several (Some w) qs r = SparesFirst several kind w.name qs r

-- the file that a request writes; of several the first, and no other
abbrev pub SparesRequest : CommandRequest → Bool → List Asked → Result (Unit {0}) Kind → Type 0
SparesRequest request force qs r =
    SparesWord (written_kind request) (writes_several request) (file_spared request force) qs r

-- the file of sums
abbrev pub SparesSums : List ℕ → Bool → List Asked → Result (Unit {0}) SumsFault → Type 0
SparesSums name true qs r = (qs ≡ []) × (r ≡ Ok tt)
SparesSums name false qs r =
    (IsFree kinds.Sums name qs × (r ≡ Ok tt))
    ⊎ ((IsSpared kinds.Sums name qs × (r ≡ Err faults.OtherKind))
    ⊎ ((k : ErrorKind) × (qs ≡ file_missed name k ∷ []) × (r ≡ Err (unread_of k))))
