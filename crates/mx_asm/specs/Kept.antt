-- The lines of a text with a label or a statement (our own).
use Rattle.std.specs.Prelude.{◌≡◌, ℕ, ◌+◌, Bool, true, false, not, ◌||◌, if◌then◌else◌, List, [], ◌∷◌, length, Option}
use Rattle.std.specs.Prelude.{None, is_some}
use Rattle.mx_asm_statement.specs.declared.statement.Statement.{Statement}
use Rattle.mx_asm_statement.specs.declared.statement.Statement.TheVariants as says
use Rattle.mx_asm_statement.specs.declared.line.Line.{Line}
use Rattle.mx_asm.specs.declared.fault.Fault.{Fault}
use Rattle.mx_asm.specs.declared.numbered.NumberedLine.{NumberedLine}
use Rattle.mx_asm.specs.declared.sizes.SectionSizes.{SectionSizes}
use Rattle.mx_asm.specs.Lengths.{statement_length}
use Rattle.mx_asm.specs.Layout.{LinesAbove, section_offset_of, sizes_after, address_of_offset, statement_said}
use Rattle.mx_asm.specs.Faults.{problem_at, fault_or}

abbrev pub is_nothing : Statement → Bool
is_nothing says.Nothing = true
is_nothing _ = false

-- a label, or a statement
abbrev pub says_something : Line → Bool
says_something l = is_some l.label || not (is_nothing (statement_said l))

-- one line, if it has a label or a statement
abbrev pub line_kept : ℕ → Line → List NumberedLine
line_kept n l = if says_something l then record { number = n; line = l } ∷ [] else []

-- THE LINES THAT ARE STORED, with their numbers, the first line being line n
abbrev pub lines_kept : ℕ → List Line → List NumberedLine
lines_kept n [] = []
lines_kept n (l ∷ ls) =
    if says_something l then record { number = n; line = l } ∷ lines_kept (n + 1) ls else lines_kept (n + 1) ls

-- of so many lines
abbrev pub AreKept : List Line → List NumberedLine → ℕ → Type 0
AreKept lines kept count = (kept ≡ lines_kept 1 lines) × (count ≡ length lines)

-- the first of them that has a problem
abbrev pub first_problem_kept : LinesAbove → SectionSizes → List NumberedLine → Option Fault
first_problem_kept a s [] = None
first_problem_kept a s (k ∷ ks) =
    fault_or (problem_at a (address_of_offset a (section_offset_of s)) (statement_said k.line)) k.number
    (first_problem_kept a (sizes_after s (statement_said k.line) (statement_length (statement_said k.line))) ks)
