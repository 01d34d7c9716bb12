-- The entry that is named, if the lines have no fault.
use Rattle.std.proofs.Common.{◌≡◌, ℕ, ◌+◌, Bool, true, false, List, [], ◌∷◌, refl, sym, subst, Option, Some, None}
use Rattle.std.specs.Prelude.{not, is_some, IsSome}
use Rattle.mx_text.specs.declared.names.Name.{Name}
use Rattle.mx_asm_statement.specs.declared.statement.Statement.{Statement}
use Rattle.mx_asm_statement.specs.declared.statement.Statement.TheVariants as says
use Rattle.mx_asm_statement.specs.declared.line.Line.{Line}
use Rattle.mx_asm.specs.declared.sizes.SectionOffset.{SectionOffset}
use Rattle.mx_asm.specs.Lengths.{statement_length}
use Rattle.mx_asm.specs.Layout.{LinesAbove, no_lines_above, statement_said, above_with, laid_by, address_of_offset, address_of_label, section_offset_of, label_named, entry_with}
use Rattle.mx_asm.specs.Faults.{undefined_where, problem_at, first_problem}
use Rattle.mx_asm.specs.Assembled.{entry_under}
use Rattle.mx_asm.proofs.Standing.{neither}

-- the name that .entry says is defined
abbrev pub NameStands : LinesAbove → Option Name → Type 0
NameStands a None = Unit {0}
NameStands a (Some name) = is_some (label_named a.labels name) ≡ true

defined : (b : Bool) → undefined_where (not b) ≡ None → b ≡ true
defined true h = refl
defined false h = cc

one_more : (a : LinesAbove) (at : ℕ) (entry : Option Name) (t : Statement) → NameStands a entry → problem_at a at t ≡ None → NameStands a (entry_with entry t)
one_more a at entry says.Nothing h none = h
one_more a at entry (says.Enter section) h none = h
one_more a at entry (says.Data size values) h none = h
one_more a at entry (says.Ascii bytes) h none = h
one_more a at entry (says.Space n) h none = h
one_more a at entry says.Separate h none = h
one_more a at entry (says.Entry name) h none = defined (is_some (label_named a.labels name)) none
one_more a at entry (says.Stack n) h none = h
one_more a at entry (says.Instruction i) h none = h
one_more a at entry (says.Branch k target) h none = h

all_more : (a c : LinesAbove) (n : ℕ) (ls : List Line) → NameStands a c.entry → first_problem a c.sizes n ls ≡ None → NameStands a (laid_by c ls).entry
all_more a c n [] h none = h
all_more a c n (l ∷ ls) h none =
    let d = above_with c l (statement_length (statement_said l)) in
    let at = address_of_offset a (section_offset_of c.sizes) in
    let both = neither (problem_at a at (statement_said l)) n (first_problem a d.sizes (n + 1) ls) none in
    all_more a d (n + 1) ls (one_more a at c.entry (statement_said l) h both.0) both.1

found : (a : LinesAbove) (o : Option SectionOffset) → is_some o ≡ true → (n : ℕ) × (address_of_label a o ≡ Some n)
found a None h = cc
found a (Some spot) h = (address_of_offset a spot, refl)

address_there : (a : LinesAbove) (entry : Option Name) → NameStands a entry → (n : ℕ) × (entry_under a entry ≡ Some n)
address_there a None h = (0, refl)
address_there a (Some name) h = found a (label_named a.labels name) h

-- there is the entry's address
pub entry_there : (ls : List Line) → first_problem (laid_by no_lines_above ls) no_lines_above.sizes 1 ls ≡ None → (n : ℕ) × (entry_under (laid_by no_lines_above ls) (laid_by no_lines_above ls).entry ≡ Some n)
entry_there ls none = address_there (laid_by no_lines_above ls) (laid_by no_lines_above ls).entry (all_more (laid_by no_lines_above ls) no_lines_above 1 ls tt none)

pub begins_somewhere : (a : LinesAbove) (ls : List Line) → a ≡ laid_by no_lines_above ls → first_problem a no_lines_above.sizes 1 ls ≡ None → IsSome (entry_under a a.entry)
begins_somewhere a ls same none =
    let (n, e) = entry_there ls (subst (λ (x : LinesAbove). first_problem x no_lines_above.sizes 1 ls ≡ None) same none) in
    subst (λ (x : LinesAbove). IsSome (entry_under x x.entry)) (sym same) (subst (λ (o : Option ℕ). IsSome o) (sym e) refl)
