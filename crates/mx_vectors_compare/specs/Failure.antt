-- Why the comparison ends early.
use Rattle.std.specs.Prelude.{◌≡◌, ◌⊎◌, List, ℕ, ◌++◌, codes}
use Rattle.std.specs.Fmt.{decimal}
use Rattle.std.specs.declared.io.ErrorKind.{ErrorKind}
use Rattle.std.specs.declared.io.ErrorKind.TheVariants as kinds
use Rattle.mx_vectors_compare.specs.declared.case.CaseError.{CaseError}
use Rattle.mx_vectors_compare.specs.declared.case.CaseError.TheVariants as case_errors
use Rattle.mx_vectors_compare.specs.declared.case_lines.CompareFailure.{CompareFailure as Kind}
use Rattle.mx_vectors_compare.specs.declared.case_lines.CompareFailure.TheVariants.{Line, File, NoMemory}

-- out of memory is no failure of the file
abbrev pub case_failure_of_kind : ErrorKind → Kind
case_failure_of_kind kinds.OutOfMemory = NoMemory
case_failure_of_kind k = File

-- the failure of the line of this number
abbrev pub failure_of_line : ℕ → CaseError → Kind
failure_of_line n case_errors.Malformed = Line n
failure_of_line n case_errors.NoMemory = NoMemory

-- a failure's text
abbrev pub text_of : Kind → List ℕ
text_of (Line n) = codes "line " ++ decimal n ++ codes " is no case"
text_of File = codes "input or output failed"
text_of NoMemory = codes "out of memory"

-- a file or memory is wanting
abbrev pub IsCaseWanting : Kind → Type 0
IsCaseWanting f = (f ≡ File) ⊎ (f ≡ NoMemory)
