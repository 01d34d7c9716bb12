-- The faults of lines that make no program (the codes and their order are our own).
use Rattle.std.specs.Prelude.{◌≡◌, ℕ, ◌+◌, ◌*◌, Bool, false, not, ◌||◌, nat_lt, if◌then◌else◌, List, [], ◌∷◌, length}
use Rattle.std.specs.Prelude.{Option, Some, None, is_some, unwrap_or, ⊤}
use Rattle.std.specs.List.{list_any}
use Rattle.mx_aout.specs.Limits.{rounded_to_pages}
use Rattle.mx_asm_statement.specs.declared.statement.Statement.{Statement}
use Rattle.mx_asm_statement.specs.declared.statement.Statement.TheVariants as says
use Rattle.mx_asm_statement.specs.declared.value.Value.{Value}
use Rattle.mx_asm_statement.specs.declared.line.Line.{Line}
use Rattle.mx_asm_statement.specs.declared.line.Reason.{Reason}
use Rattle.mx_asm_statement.specs.declared.line.Reason.TheVariants as reasons
use Rattle.mx_asm.specs.declared.fault.Problem.{Problem}
use Rattle.mx_asm.specs.declared.fault.Problem.TheVariants.{BadByte, BadNumber, OpenText, UnknownWord, BadOperands}
use Rattle.mx_asm.specs.declared.fault.Problem.TheVariants.{Twice, Undefined, TooFar, WrongSection, TooLarge, LongName}
use Rattle.mx_asm.specs.declared.fault.Fault.{Fault}
use Rattle.mx_asm.specs.declared.fault.AsmError.{AsmError}
use Rattle.mx_asm.specs.declared.fault.AsmError.TheVariants.{At, NoMemory}
use Rattle.mx_asm.specs.declared.sizes.SectionSizes.{SectionSizes}
use Rattle.mx_asm.specs.Branches.{branch_length, distance, is_too_far}
use Rattle.mx_asm.specs.Lengths.{statement_length}
use Rattle.mx_asm.specs.Layout.{LinesAbove, no_lines_above, laid_by, section_offset_of, sizes_after, address_of_offset}
use Rattle.mx_asm.specs.Layout.{value_under, label_named, statement_said}

abbrev pub problem_code : Problem → ℕ
problem_code BadByte = 1
problem_code BadNumber = 2
problem_code OpenText = 3
problem_code UnknownWord = 10
problem_code BadOperands = 11
problem_code Twice = 12
problem_code Undefined = 13
problem_code TooFar = 14
problem_code WrongSection = 15
problem_code TooLarge = 16
problem_code LongName = 17

abbrev pub error_code : AsmError → ℕ
error_code (At f) = problem_code f.problem
error_code NoMemory = 90

abbrev pub problem_of : Reason → Problem
problem_of reasons.LongName = LongName
problem_of reasons.Twice = Twice
problem_of reasons.Unknown = UnknownWord
problem_of reasons.WrongSection = WrongSection
problem_of reasons.NoForm = BadOperands

-- ---- names without a label, and jumps that don't reach

abbrev pub is_undefined : LinesAbove → Value → Bool
is_undefined a v = not (is_some (value_under a v))

abbrev pub is_undefined_if : LinesAbove → Option Value → Bool
is_undefined_if a None = false
is_undefined_if a (Some v) = is_undefined a v

abbrev pub undefined_where : Bool → Option Problem
undefined_where b = if b then Some Undefined else None

abbrev pub undefined_or : Option ℕ → (ℕ → Bool) → Option Problem
undefined_or None is_too_far = Some Undefined
undefined_or (Some x) is_too_far = if is_too_far x then Some TooFar else None

-- the problem of a statement at an address, with all labels known
abbrev pub problem_at : LinesAbove → ℕ → Statement → Option Problem
problem_at a at (says.Data size values) = undefined_where (list_any (is_undefined a) values)
problem_at a at (says.Entry name) = undefined_where (not (is_some (label_named a.labels name)))
problem_at a at (says.Instruction i) =
    undefined_where (is_undefined_if a i.immediate || is_undefined_if a i.displacement)
problem_at a at (says.Branch k target) =
    undefined_or (value_under a target) (λ x. is_too_far k (distance (at + branch_length k) x))
problem_at a at _ = None

abbrev pub fault_or : Option Problem → ℕ → Option Fault → Option Fault
fault_or None n rest = rest
fault_or (Some p) n rest = Some (record { problem = p; line = n })

-- the first line with a problem, the first of these being line n
abbrev pub first_problem : LinesAbove → SectionSizes → ℕ → List Line → Option Fault
first_problem a s n [] = None
first_problem a s n (l ∷ ls) =
    fault_or (problem_at a (address_of_offset a (section_offset_of s)) (statement_said l)) n
    (first_problem a (sizes_after s (statement_said l) (statement_length (statement_said l))) (n + 1) ls)

-- ---- sizes

-- the bytes that the data segment holds, without the stack
abbrev pub bytes_used : LinesAbove → ℕ
bytes_used a = (if a.sep then 0 else a.sizes.text) + a.sizes.init + a.sizes.bss

abbrev pub at_least : ℕ → ℕ → ℕ
at_least least n = if nat_lt n least then least else n

-- with the stack, rounded up to whole pages, and one page at least
abbrev pub total_of : LinesAbove → ℕ
total_of a = at_least 4096 (rounded_to_pages (bytes_used a + unwrap_or a.stack 2048))

-- a file's limits; what is used can't pass the total, which holds it
abbrev pub is_program_too_large : LinesAbove → Bool
is_program_too_large a =
    nat_lt 1048576 a.sizes.text || nat_lt 262144 (length a.labels * 16) || nat_lt 4194304 (total_of a)

abbrev pub number_of_last_line : List Line → ℕ
number_of_last_line [] = 1
number_of_last_line (l ∷ ls) = length (l ∷ ls)

abbrev pub too_large_in : LinesAbove → List Line → Option Fault
too_large_in a lines =
    if is_program_too_large a then Some (record { problem = TooLarge; line = number_of_last_line lines }) else None

abbrev pub first_of : Option Fault → Option Fault → Option Fault
first_of None g = g
first_of (Some f) g = Some f

-- the fault of lines none of which is refused for itself or for the lines above it
abbrev pub fault_after : List Line → Option Fault
fault_after lines =
    let a = laid_by no_lines_above lines in
    first_of (first_problem a no_lines_above.sizes 1 lines) (too_large_in a lines)

-- unless memory runs out
abbrev pub IsFaultOr : Option Fault → AsmError → Type 0
IsFaultOr found NoMemory = ⊤
IsFaultOr found (At f) = found ≡ Some f
