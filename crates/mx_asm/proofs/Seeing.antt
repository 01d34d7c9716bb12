-- What of the lines above the reasons hang on, one line more at a time.
use Rattle.std.proofs.Common.{◌≡◌, ℕ, Bool, true, false, List, [], ◌∷◌, refl, cond, Option, Some, None}
use Rattle.std.specs.Map.{keys_of}
use Rattle.std.specs.Prelude.{◌||◌, is_some, is_none}
use Rattle.std.proofs.lemmas.List.{map-append}
use Rattle.mx_text.specs.declared.names.Name.{Name}
use Rattle.mx_asm_statement.specs.declared.statement.Section.{Section}
use Rattle.mx_asm_statement.specs.declared.statement.Section.TheVariants.{Text, Data, Bss}
use Rattle.mx_asm_statement.specs.declared.statement.Statement.{Statement}
use Rattle.mx_asm_statement.specs.declared.statement.Statement.TheVariants as says
use Rattle.mx_asm_statement.specs.declared.line.Line.{Line}
use Rattle.mx_asm_statement.specs.declared.line.Reason.{Reason}
use Rattle.mx_asm_statement.specs.declared.line.Saying.TheVariants.{First, Second}
use Rattle.mx_asm_statement.specs.Reasons.{is_said_again, is_unknown, is_misplaced}
use Rattle.mx_asm.specs.declared.sizes.SectionSizes.{SectionSizes}
use Rattle.mx_asm.specs.declared.sizes.SectionOffset.{SectionOffset}
use Rattle.mx_asm.specs.Layout.{LinesAbove, Seen, seen_of, seen_with, above_with, statement_said, section_offset_of, sizes_after, grown_in, section_with, labels_with, names_with, separates, entry_with, names_entry, stack_with, sets_stack, is_defined, is_defined_twice, says_again, saying_of, refusal_of_line}

grown_section : (s : SectionSizes) (section : Section) (n : ℕ) → (grown_in s section n).section ≡ s.section
grown_section s Text n = refl
grown_section s Data n = refl
grown_section s Bss n = refl

section_after : (s : SectionSizes) (t : Statement) (n : ℕ) → (sizes_after s t n).section ≡ section_with s.section t
section_after s says.Nothing n = grown_section s s.section n
section_after s (says.Enter section) n = refl
section_after s (says.Data size values) n = grown_section s s.section n
section_after s (says.Ascii bytes) n = grown_section s s.section n
section_after s (says.Space k) n = grown_section s s.section n
section_after s says.Separate n = grown_section s s.section n
section_after s (says.Entry name) n = grown_section s s.section n
section_after s (says.Stack k) n = grown_section s s.section n
section_after s (says.Instruction i) n = grown_section s s.section n
section_after s (says.Branch k target) n = grown_section s s.section n

names_after : (labels : List (Name × SectionOffset)) (label : Option Name) (spot : SectionOffset) → keys_of (labels_with labels label spot) ≡ names_with (keys_of labels) label
names_after labels None spot = refl
names_after labels (Some name) spot = map-append _ labels ((name, spot) ∷ [])

entry_after : (entry : Option Name) (t : Statement) → is_some (entry_with entry t) ≡ (names_entry t || is_some entry)
entry_after entry says.Nothing = refl
entry_after entry (says.Enter section) = refl
entry_after entry (says.Data size values) = refl
entry_after entry (says.Ascii bytes) = refl
entry_after entry (says.Space k) = refl
entry_after entry says.Separate = refl
entry_after entry (says.Entry name) = refl
entry_after entry (says.Stack k) = refl
entry_after entry (says.Instruction i) = refl
entry_after entry (says.Branch k target) = refl

stack_after : (stack : Option ℕ) (t : Statement) → is_some (stack_with stack t) ≡ (sets_stack t || is_some stack)
stack_after stack says.Nothing = refl
stack_after stack (says.Enter section) = refl
stack_after stack (says.Data size values) = refl
stack_after stack (says.Ascii bytes) = refl
stack_after stack (says.Space k) = refl
stack_after stack says.Separate = refl
stack_after stack (says.Entry name) = refl
stack_after stack (says.Stack k) = refl
stack_after stack (says.Instruction i) = refl
stack_after stack (says.Branch k target) = refl

seen_same : (z y : Section) (ns ms : List Name) (sep e f s t : Bool) → z ≡ y → ns ≡ ms → e ≡ f → s ≡ t
    → (let x : Seen = record { section = z; names = ns; sep = sep; entry = e; stack = s } in x) ≡ record { section = y; names = ms; sep = sep; entry = f; stack = t }
seen_same z y ns ms sep e f s t h1 h2 h3 h4 = cc

-- how long the line is decides nothing
pub seen_after : (a : LinesAbove) (l : Line) (n : ℕ) → seen_of (above_with a l n) ≡ seen_with (seen_of a) l
seen_after a l n =
    seen_same _ _ _ _ (a.sep || separates (statement_said l)) _ _ _ _
    (section_after a.sizes (statement_said l) n)
    (names_after a.labels l.label (section_offset_of a.sizes))
    (entry_after a.entry (statement_said l))
    (stack_after a.stack (statement_said l))

-- ---- a line that no reason refuses

false_left : (x y : Bool) → (x || y) ≡ false → x ≡ false
false_left true y h = cc
false_left false y h = refl

pub false_right : (x y : Bool) → (x || y) ≡ false → y ≡ false
false_right true y h = cc
false_right false y h = h

-- there is no reason
pub none_refused : (long twice unknown misplaced none : Bool) (r1 r2 r3 r4 r5 : Reason)
    → cond long (Some r1) (cond twice (Some r2) (cond unknown (Some r3) (cond misplaced (Some r4) (cond none (Some r5) None)))) ≡ None
    → (twice ≡ false) × (misplaced ≡ false) × (none ≡ false)
none_refused true twice unknown misplaced none r1 r2 r3 r4 r5 h = cc
none_refused false true unknown misplaced none r1 r2 r3 r4 r5 h = cc
none_refused false false true misplaced none r1 r2 r3 r4 r5 h = cc
none_refused false false false true none r1 r2 r3 r4 r5 h = cc
none_refused false false false false true r1 r2 r3 r4 r5 h = cc
none_refused false false false false false r1 r2 r3 r4 r5 h = (refl, refl, refl)

pub first_said : (b : Bool) → is_said_again (cond b Second First) ≡ false → b ≡ false
first_said true h = cc
first_said false h = refl

-- its label is new
pub not_standing : (s : Seen) (l : Line) → refusal_of_line s l ≡ None → is_defined s.names l.label ≡ false
not_standing s l clean =
    let none = none_refused l.long (is_said_again (saying_of s l)) (is_unknown l.beginning) (is_misplaced s.section l.beginning) (is_none l.statement) _ _ _ _ _ clean in
    false_left (is_defined s.names l.label) (is_defined_twice s l.beginning) (first_said (says_again s l) none.0)
