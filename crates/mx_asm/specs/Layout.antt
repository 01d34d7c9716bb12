-- The layout of a text: offsets and addresses of its statements and labels (our own; the sections are those
-- of a.out.h).
use Rattle.std.specs.Prelude.{ℕ, ◌+◌, ◌%◌, ◌^◌, ◌≤◌, Bool, true, false, ◌||◌, nat_eq, if◌then◌else◌, List, [], ◌∷◌}
use Rattle.std.specs.Prelude.{◌++◌, Option, Some, None, is_some, unwrap_or, pos, ◌+ℤ◌}
use Rattle.std.specs.List.{list_any}
use Rattle.std.specs.Map.{lookup, keys_of}
use Rattle.std.specs.Cmp.Lexicographic.{pointwise}
use Rattle.mx_word.specs.Word.{modulo}
use Rattle.mx_text.specs.declared.names.Name.{Name}
use Rattle.mx_asm_statement.specs.declared.statement.Section.{Section}
use Rattle.mx_asm_statement.specs.declared.statement.Section.TheVariants.{Text, Data, Bss}
use Rattle.mx_asm_statement.specs.declared.statement.Statement.{Statement}
use Rattle.mx_asm_statement.specs.declared.statement.Statement.TheVariants as says
use Rattle.mx_asm_statement.specs.declared.value.Value.{Value}
use Rattle.mx_asm_statement.specs.declared.line.Line.{Line}
use Rattle.mx_asm_statement.specs.declared.line.StatementStart.{StatementStart}
use Rattle.mx_asm_statement.specs.declared.line.StatementStart.TheVariants as beginnings
use Rattle.mx_asm_statement.specs.declared.line.Reason.{Reason}
use Rattle.mx_asm_statement.specs.Values.{whole_of}
use Rattle.mx_asm_statement.specs.declared.line.Saying.{Saying}
use Rattle.mx_asm_statement.specs.declared.line.Saying.TheVariants.{First, Second}
use Rattle.mx_asm_statement.specs.Reasons.{statement_refusal}
use Rattle.mx_asm.specs.Lengths.{statement_length}
use Rattle.mx_asm.specs.declared.sizes.SectionSizes.{SectionSizes}
use Rattle.mx_asm.specs.declared.sizes.SectionOffset.{SectionOffset}

-- ---- sizes

abbrev pub size_in : SectionSizes → Section → ℕ
size_in s Text = s.text
size_in s Data = s.init
size_in s Bss = s.bss

-- the offset of the next byte
abbrev pub section_offset_of : SectionSizes → SectionOffset
section_offset_of s = record { section = s.section; offset = size_in s s.section }

abbrev pub grown_in : SectionSizes → Section → ℕ → SectionSizes
grown_in s Text n = record s { text = s.text + n }
grown_in s Data n = record s { init = s.init + n }
grown_in s Bss n = record s { bss = s.bss + n }

abbrev pub sizes_grown : SectionSizes → ℕ → SectionSizes
sizes_grown s n = grown_in s s.section n

-- after a statement of this many bytes
abbrev pub sizes_after : SectionSizes → Statement → ℕ → SectionSizes
sizes_after s (says.Enter section) n = record s { section = section }
sizes_after s _ n = sizes_grown s n

-- ---- what the lines above leave

-- the sizes, each label with its section and offset, in order, and the values of .sep, .entry and .stack
pub record LinesAbove : Type 0 where
  pub sizes : SectionSizes
  pub labels : List (Name × SectionOffset)
  pub sep : Bool
  pub entry : Option Name
  pub stack : Option ℕ

abbrev pub no_lines_above : LinesAbove
no_lines_above =
    record {
      sizes = record { section = Text; text = 0; init = 0; bss = 0 };
      labels = [];
      sep = false;
      entry = None;
      stack = None;
    }

abbrev pub is_same_label : Name → Name → Bool
is_same_label a b = pointwise nat_eq a.bytes b.bytes

-- the section and offset of a label, if there is one of this name
abbrev pub label_named : List (Name × SectionOffset) → Name → Option SectionOffset
label_named labels name = lookup (is_same_label name) labels

abbrev pub labels_with : List (Name × SectionOffset) → Option Name → SectionOffset → List (Name × SectionOffset)
labels_with labels None spot = labels
labels_with labels (Some name) spot = labels ++ (name, spot) ∷ []

abbrev pub separates : Statement → Bool
separates says.Separate = true
separates _ = false

abbrev pub entry_with : Option Name → Statement → Option Name
entry_with entry (says.Entry name) = Some name
entry_with entry _ = entry

abbrev pub stack_with : Option ℕ → Statement → Option ℕ
stack_with stack (says.Stack n) = Some n
stack_with stack _ = stack

-- the statement of a line; one that is refused has none
abbrev pub statement_said : Line → Statement
statement_said l = unwrap_or l.statement says.Nothing

-- after a line of this many bytes: its label is at the offset where it begins
abbrev pub above_with : LinesAbove → Line → ℕ → LinesAbove
above_with a l n = record {
  sizes = sizes_after a.sizes (statement_said l) n;
  labels = labels_with a.labels l.label (section_offset_of a.sizes);
  sep = a.sep || separates (statement_said l);
  entry = entry_with a.entry (statement_said l);
  stack = stack_with a.stack (statement_said l);
}

-- after lines of these lengths
abbrev pub left_by : LinesAbove → List Line → List ℕ → LinesAbove
left_by a [] ns = a
left_by a (l ∷ ls) [] = a
left_by a (l ∷ ls) (n ∷ ns) = left_by (above_with a l n) ls ns

-- after lines of their own lengths
abbrev pub laid_by : LinesAbove → List Line → LinesAbove
laid_by a [] = a
laid_by a (l ∷ ls) = laid_by (above_with a l (statement_length (statement_said l))) ls

-- ---- addresses

-- text begins at 0, data at 0 or after the text, bss after the data
abbrev pub start_of : LinesAbove → Section → ℕ
start_of a Text = 0
start_of a Data = if a.sep then 0 else a.sizes.text
start_of a Bss = (if a.sep then 0 else a.sizes.text) + a.sizes.init

abbrev pub address_of_offset : LinesAbove → SectionOffset → ℕ
address_of_offset a spot = (start_of a spot.section + spot.offset) % 2 ^ 32

abbrev pub address_of_label : LinesAbove → Option SectionOffset → Option ℕ
address_of_label a None = None
address_of_label a (Some spot) = Some (address_of_offset a spot)

-- a value without a name counts from 0
abbrev pub value_base : LinesAbove → Option Name → Option ℕ
value_base a None = Some 0
value_base a (Some name) = address_of_label a (label_named a.labels name)

abbrev pub counted_from : Value → Option ℕ → Option ℕ
counted_from v None = None
counted_from v (Some base) = Some (modulo 32 (pos base +ℤ whole_of v))

-- nothing if its name is no label
abbrev pub value_under : LinesAbove → Value → Option ℕ
value_under a v = counted_from v (value_base a v.name)

-- ---- reasons to refuse a line for the lines above

-- what the reasons depend on: the section in force, the names of the labels, and whether .sep, .entry and
-- .stack are above
pub record Seen : Type 0 where
  pub section : Section
  pub names : List Name
  pub sep : Bool
  pub entry : Bool
  pub stack : Bool

-- above the first line
abbrev pub unseen : Seen
unseen = record { section = Text; names = []; sep = false; entry = false; stack = false }

abbrev pub section_with : Section → Statement → Section
section_with section (says.Enter other) = other
section_with section _ = section

abbrev pub names_with : List Name → Option Name → List Name
names_with names None = names
names_with names (Some name) = names ++ name ∷ []

abbrev pub names_entry : Statement → Bool
names_entry (says.Entry name) = true
names_entry _ = false

abbrev pub sets_stack : Statement → Bool
sets_stack (says.Stack n) = true
sets_stack _ = false

-- with one line more; its length doesn't matter
abbrev pub seen_with : Seen → Line → Seen
seen_with s l = record {
  section = section_with s.section (statement_said l);
  names = names_with s.names l.label;
  sep = s.sep || separates (statement_said l);
  entry = names_entry (statement_said l) || s.entry;
  stack = sets_stack (statement_said l) || s.stack;
}

-- what the reasons depend on, of the lines above
abbrev pub seen_of : LinesAbove → Seen
seen_of a =
    record {
      section = a.sizes.section;
      names = keys_of a.labels;
      sep = a.sep;
      entry = is_some a.entry;
      stack = is_some a.stack;
    }

abbrev pub is_defined : List Name → Option Name → Bool
is_defined names None = false
is_defined names (Some name) = list_any (is_same_label name) names

abbrev pub is_defined_twice : Seen → StatementStart → Bool
is_defined_twice s beginnings.Separate = s.sep
is_defined_twice s beginnings.Entry = s.entry
is_defined_twice s beginnings.Stack = s.stack
is_defined_twice s _ = false

abbrev pub says_again : Seen → Line → Bool
says_again s l = is_defined s.names l.label || is_defined_twice s l.beginning

abbrev pub saying_of : Seen → Line → Saying
saying_of s l = if says_again s l then Second else First

abbrev pub refusal_of_line : Seen → Line → Option Reason
refusal_of_line s l = statement_refusal s.section (saying_of s l) l

-- ---- bounds

abbrev pub SizesWithin : SectionSizes → ℕ → Type 0
SizesWithin s n = (s.text ≤ n) × (s.init ≤ n) × (s.bss ≤ n)

-- each section grows by at most the bound
abbrev pub GrowsWithin : SectionSizes → SectionSizes → ℕ → Type 0
GrowsWithin s t n = (t.text ≤ s.text + n) × (t.init ≤ s.init + n) × (t.bss ≤ s.bss + n)
