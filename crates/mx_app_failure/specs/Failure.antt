-- Failures: which error becomes which failure, and each failure's line and exit status.
use Rattle.std.specs.Prelude.{◌≡◌, ◌⊎◌, ◌&&◌, ◌||◌, ◌==◌, ℕ, Bool, not, if◌then◌else◌, List, ◌∷◌, ◌++◌, codes, Option, Some, None, Result, Err, IfErr, Vec, length, nat_eq, nat_le, nat_lt, slice_index, take}
use Rattle.std.specs.List.{list_all, starts_with}
use Rattle.std.specs.Fmt.{decimal}
use Rattle.std.specs.declared.alloc.Global.{Global}
use Rattle.std.specs.declared.io.ErrorKind.{ErrorKind}
use Rattle.std.specs.declared.io.ErrorKind.TheVariants as kinds
use Rattle.mx_aout.specs.declared.program.FileError.{FileError}
use Rattle.mx_aout.specs.declared.program.FileError.TheVariants as errors
use Rattle.mx_aout.specs.Refusals.{refusal_code, refusal_name}
use Rattle.mx_asm.specs.Faults.{problem_code}
use Rattle.mx_asm.specs.declared.fault.Problem.{Problem}
use Rattle.mx_asm.specs.declared.fault.Problem.TheVariants as problems
use Rattle.mx_asm.specs.declared.fault.AsmError.{AsmError}
use Rattle.mx_asm.specs.declared.fault.AsmError.TheVariants as asm_errors
use Rattle.mx_text.specs.declared.error.BootError.{BootError}
use Rattle.mx_text.specs.declared.error.BootError.TheVariants as lines
use Rattle.mx_app_failure.specs.declared.failure.About.{About}
use Rattle.mx_app_failure.specs.declared.failure.About.TheVariants.{Program, Source, Written}
use Rattle.mx_app_failure.specs.declared.failure.Access.{Access}
use Rattle.mx_app_failure.specs.declared.failure.Access.TheVariants as access
use Rattle.mx_app_failure.specs.declared.failure.Looks.{Looks}
use Rattle.mx_app_failure.specs.declared.failure.Looks.TheVariants as looks
use Rattle.mx_app_failure.specs.declared.failure.FileProblem.{FileProblem}
use Rattle.mx_app_failure.specs.declared.failure.FileProblem.TheVariants.{Refused, Faulty, Misstated, Unread, NotUtf8, IsProgram, Unwritten}
use Rattle.mx_app_failure.specs.declared.failure.OutputProblem.{OutputProblem}
use Rattle.mx_app_failure.specs.declared.failure.OutputProblem.TheVariants.{ReaderEnded, NoRoom, Other}
use Rattle.mx_app_failure.specs.declared.failure.Failure.{Failure as Kind}
use Rattle.mx_app_failure.specs.declared.failure.Failure.TheVariants.{Of, NotText, Input, Output, NoMemory}

-- THE STATUS
abbrev pub status_of_problem : FileProblem → ℕ
status_of_problem (Refused e l) = 1
status_of_problem (Faulty f) = 1
status_of_problem (Misstated e) = 1
status_of_problem p = 3

abbrev pub status_of : Kind → ℕ
status_of (Of f) = status_of_problem f.problem
status_of NotText = 2
status_of Input = 3
status_of (Output p) = 3
status_of NoMemory = 4

-- ---- from errors to failures: too little memory is always NoMemory, and never a file's

-- of a file without its text, if it has a problem; else memory is out
abbrev pub failure_if : Option FileProblem → About → Kind
failure_if (Some p) about = Of (record { problem = p; about = about; text = None })
failure_if None about = NoMemory

-- of a file with a wrong line: its text is in the failure
abbrev pub IsOfText : FileProblem → About → List ℕ → Kind → Type 0
IsOfText p about text f =
    (v : Vec ℕ Global) × (f ≡ Of (record { problem = p; about = about; text = Some v })) × (v.items ≡ text)

-- why a file can't be read or written
abbrev pub access_of : ErrorKind → Access
access_of kinds.NotFound = access.Missing
access_of kinds.NotADirectory = access.Missing
access_of kinds.PermissionDenied = access.Forbidden
access_of kinds.ReadOnlyFilesystem = access.Forbidden
access_of kinds.IsADirectory = access.Folder
access_of kinds.StorageFull = access.NoRoom
access_of kinds.QuotaExceeded = access.NoRoom
access_of kinds.FileTooLarge = access.NoRoom
access_of kinds.WriteZero = access.NoRoom
access_of k = access.Other

-- of a file that is read
abbrev pub problem_of_reading : ErrorKind → Option FileProblem
problem_of_reading kinds.OutOfMemory = None
problem_of_reading k = Some (Unread (access_of k))

-- what a file that is no program looks like, by its first bytes (our own, but for those of ELF)
abbrev pub is_of_text : ℕ → Bool
is_of_text b = (nat_le 32 b && nat_lt b 127) || ((b == 9) || ((b == 10) || (b == 13)))

abbrev pub begins_text : List ℕ → Bool
begins_text b = not (length b == 0) && list_all is_of_text (take 64 b)

-- ELF: System V ABI, 4-5
abbrev pub looks_of : List ℕ → Looks
looks_of b =
    if starts_with nat_eq b (127 ∷ codes "ELF") then looks.Elf else if begins_text b then looks.Text else looks.Other

-- of a program file of these bytes
abbrev pub problem_of_refusal : List ℕ → FileError → Option FileProblem
problem_of_refusal b errors.NoMemory = None
problem_of_refusal b e = Some (Refused e (looks_of b))

-- of the file that is written
abbrev pub unwritten_of : ErrorKind → Kind
unwritten_of kinds.OutOfMemory = NoMemory
unwritten_of k = failure_if (Some (Unwritten (access_of k))) Written

-- of a text for the assembler
abbrev pub IsFaulty : AsmError → List ℕ → Kind → Type 0
IsFaulty (asm_errors.At f) text r = IsOfText (Faulty f) Source text r
IsFaulty asm_errors.NoMemory text r = r ≡ NoMemory

-- of a configuration, a script or a saved history
abbrev pub IsMisstated : BootError → About → List ℕ → Kind → Type 0
IsMisstated lines.NoMemory about text f = f ≡ NoMemory
IsMisstated e about text f = IsOfText (Misstated e) about text f

-- of a text whose bytes aren't UTF-8: a program begins with 01 03
abbrev pub problem_of_bytes : List ℕ → FileProblem
problem_of_bytes b = if nat_lt 1 (length b) && slice_index b 0 == 1 && slice_index b 1 == 3 then IsProgram else NotUtf8

-- of standard output and input
abbrev pub output_problem : ErrorKind → OutputProblem
output_problem kinds.BrokenPipe = ReaderEnded
output_problem kinds.StorageFull = NoRoom
output_problem kinds.QuotaExceeded = NoRoom
output_problem kinds.FileTooLarge = NoRoom
output_problem kinds.WriteZero = NoRoom
output_problem k = Other

abbrev pub output_of : ErrorKind → Kind
output_of kinds.OutOfMemory = NoMemory
output_of k = Output (output_problem k)

abbrev pub input_of : ErrorKind → Kind
input_of kinds.OutOfMemory = NoMemory
input_of k = Input

-- ---- lines

-- the name of a problem in a line of a text for the assembler
abbrev pub problem_name : Problem → List ℕ
problem_name problems.BadByte = codes "BadByte"
problem_name problems.BadNumber = codes "BadNumber"
problem_name problems.OpenText = codes "OpenText"
problem_name problems.UnknownWord = codes "UnknownWord"
problem_name problems.BadOperands = codes "BadOperands"
problem_name problems.Twice = codes "Twice"
problem_name problems.Undefined = codes "Undefined"
problem_name problems.TooFar = codes "TooFar"
problem_name problems.WrongSection = codes "WrongSection"
problem_name problems.TooLarge = codes "TooLarge"
problem_name problems.LongName = codes "LongName"

-- the words after "mx: " in a failure's line, for a wrong line n of a configuration, script or saved history
abbrev pub lines_told : BootError → List ℕ
lines_told (lines.BadLine n) = codes "70 BadLine line " ++ decimal n
lines_told (lines.TwiceNamed n) = codes "71 TwiceNamed line " ++ decimal n
lines_told (lines.TooMany n) = codes "72 TooMany line " ++ decimal n
lines_told (lines.BadRecord n) = codes "73 BadRecord line " ++ decimal n
lines_told lines.NoMemory = codes "90 NoMemory"

-- the words after "mx: " in the line of a file's failure
abbrev pub problem_told : FileProblem → List ℕ
problem_told (Refused e l) = decimal (refusal_code e) ++ codes " " ++ refusal_name e
problem_told (Faulty f) =
    decimal (problem_code f.problem) ++ codes " " ++ problem_name f.problem ++ codes " line " ++ decimal f.line
problem_told (Misstated e) = lines_told e
problem_told p = codes "80 File"

-- THE LINE of a failure, without its line feed
abbrev pub failure_line : Kind → List ℕ
failure_line (Of f) = codes "mx: " ++ problem_told f.problem
failure_line NotText = codes "mx: a word of the command line isn't text"
failure_line Input = codes "mx: 80 File"
failure_line (Output p) = codes "mx: 80 File"
failure_line NoMemory = codes "mx: 90 NoMemory"

-- ---- commands

-- the failure comes from outside: standard output takes nothing, or too little memory
abbrev pub IsWanting : Kind → Type 0
IsWanting f = ((p : OutputProblem) × (f ≡ Output p)) ⊎ (f ≡ NoMemory)

-- a front of this text is printed, at most all of it
abbrev pub PrintsFront : (List ℕ → Type 0) → List ℕ → Type 0
PrintsFront Prints text = (front : List ℕ) × (rest : List ℕ) × (text ≡ front ++ rest) × Prints front

-- no line can be typed: standard input gives nothing, or too little memory
abbrev pub IsUntyped : Kind → Type 0
IsUntyped f = (f ≡ Input) ⊎ (f ≡ NoMemory)

-- a command answers r about a file of these bytes. If the file has a refusal e, r is that failure. If not, r is no
-- failure, or one from outside
abbrev pub Tells : List ℕ → Option FileError → {A : Type 0} → Result A Kind → Type 0
Tells b (Some e) r = r ≡ Err (failure_if (problem_of_refusal b e) Program)
Tells b None r = IfErr r IsWanting
