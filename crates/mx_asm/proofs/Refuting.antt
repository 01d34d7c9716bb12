-- No program is made of lines with a fault.
use Rattle.std.proofs.Common.{◌≡◌, ℕ, ◌+◌, ◌*◌, ◌≤◌, Bool, true, false, List, [], ◌∷◌, length, map, refl, sym, ◌∙◌, ap, subst, arith, Option, Some, None, cond}
use Rattle.std.specs.Prelude.{◌||◌, not, is_some, is_none, unwrap_or}
use Rattle.std.specs.List.{list_any}
use Rattle.std.proofs.lemmas.Bool.{le-ltb}
use Rattle.std.proofs.lemmas.List.{length-map}
use Rattle.mx_insn.specs.declared.insn.Insn.{Insn}
use Rattle.mx_encode.specs.Chosen.{Chosen}
use Rattle.mx_encode.specs.Filled.{with_immediate, with_displacement}
use Rattle.mx_text.specs.declared.names.Name.{Name}
use Rattle.mx_text.specs.Lines.{lines}
use Rattle.mx_asm_statement.specs.declared.statement.Section.{Section}
use Rattle.mx_asm_statement.specs.declared.statement.Section.TheVariants.{Text, Data, Bss}
use Rattle.mx_asm_statement.specs.declared.statement.Statement.{Statement}
use Rattle.mx_asm_statement.specs.declared.statement.Statement.TheVariants as says
use Rattle.mx_asm_statement.specs.declared.value.Value.{Value}
use Rattle.mx_asm_statement.specs.declared.line.Line.{Line}
use Rattle.mx_asm_statement.specs.Reasons.{is_said_again, is_unknown, is_misplaced}
use Rattle.mx_asm_statement.specs.Beginnings.{begins_with}
use Rattle.mx_asm_statement.specs.Lines.{IsLine}
use Rattle.mx_aout.specs.Limits.{rounded_to_pages}
use Rattle.mx_aout.specs.declared.program.Program.{Program}
use Rattle.mx_asm.specs.declared.sizes.SectionOffset.{SectionOffset}
use Rattle.mx_asm.specs.declared.fault.Problem.{Problem}
use Rattle.mx_asm.specs.declared.fault.Problem.TheVariants.{TooFar, TooLarge}
use Rattle.mx_asm.specs.declared.fault.Fault.{Fault}
use Rattle.mx_asm.specs.Branches.{branch_by, branch_marks, branch_length, distance, is_too_far}
use Rattle.mx_asm.specs.Lengths.{statement_length}
use Rattle.mx_asm.specs.Layout.{LinesAbove, Seen, no_lines_above, unseen, seen_of, seen_with, is_defined, is_defined_twice, says_again, saying_of, refusal_of_line, statement_said, above_with, left_by, laid_by, address_of_offset, address_of_label, section_offset_of, label_named, sizes_after, entry_with, value_under}
use Rattle.mx_asm.specs.Faults.{is_undefined, is_undefined_if, undefined_where, undefined_or, problem_at, fault_or, first_problem, total_of, is_program_too_large, number_of_last_line, too_large_in, first_of, fault_after}
use Rattle.mx_asm.specs.Bytes.{put_in, put_under, then_put, BytesOf, StandsIn, AllStand}
use Rattle.mx_asm.specs.Assembled.{AreAssembled, entry_under}
use Rattle.mx_asm.specs.Text.{AreLinesTaken}
use Rattle.mx_asm_statement.proofs.Beginnings.{line_begins}
use Rattle.mx_asm.proofs.Branching.{branch_reaches}
use Rattle.mx_asm.proofs.Lengths.{stands_length}
use Rattle.mx_asm.proofs.Emitting.{lengths_same}
use Rattle.mx_asm.proofs.Fitting.{contents_size}
use Rattle.mx_asm.proofs.Seeing.{false_right, first_said, none_refused, seen_after}

-- ---- values that have numbers are defined

some_value : (o : Option ℕ) (n : ℕ) → o ≡ Some n → not (is_some o) ≡ false
some_value None n e = cc
some_value (Some m) n e = refl

all_defined : (a : LinesAbove) (vs : List Value) (ns : List ℕ) → map (value_under a) vs ≡ map Some ns → list_any (is_undefined a) vs ≡ false
all_defined a [] ns e = refl
all_defined a (v ∷ vs) [] e = cc
all_defined a (v ∷ vs) (n ∷ ns) e =
    let here : value_under a v ≡ Some n = cc in
    let rest : map (value_under a) vs ≡ map Some ns = cc in
    rw (some_value (value_under a v) n here) (all_defined a vs ns rest)

put_defined : (a : LinesAbove) (put : Insn → ℕ → Insn) (v : Option Value) (i insn : Insn) → put_under a put v i ≡ Some insn → is_undefined_if a v ≡ false
put_defined a put None i insn e = refl
put_defined a put (Some v) i insn e = by_case (value_under a v) e
  where
    by_case : (o : Option ℕ) → put_in put i o ≡ Some insn → not (is_some o) ≡ false
    by_case None e = cc
    by_case (Some n) e = refl

then_defined : (a : LinesAbove) (v : Option Value) (o : Option Insn) (insn : Insn) → then_put a with_displacement v o ≡ Some insn → (i : Insn) × (o ≡ Some i) × (is_undefined_if a v ≡ false)
then_defined a v None insn e = cc
then_defined a v (Some i) insn e = (i, refl, put_defined a with_displacement v i insn e)

-- ---- a statement whose bytes are there has no fault

not_too_far : (o : Option ℕ) (far : ℕ → Bool) (x : ℕ) → o ≡ Some x → far x ≡ false → undefined_or o far ≡ None
not_too_far None far x e near = cc
not_too_far (Some y) far x e near = let same : y ≡ x = cc in let here : far y ≡ false = ap far same ∙ near in ap (λ (b : Bool). cond b (Some TooFar) None) here

-- where .entry names a label that is defined
abbrev EntryStands : LinesAbove → Statement → Type 0
EntryStands a (says.Entry name) = is_some (label_named a.labels name) ≡ true
EntryStands a _ = Unit {0}

none_against : (a : LinesAbove) (at : ℕ) (t : Statement) (b : List ℕ) → EntryStands a t → BytesOf a at t b → problem_at a at t ≡ None
none_against a at says.Nothing b entry h = refl
none_against a at (says.Enter section) b entry h = refl
none_against a at (says.Data size values) b entry (ns, e, h) = ap undefined_where (all_defined a values ns e)
none_against a at (says.Ascii bytes) b entry h = refl
none_against a at (says.Space n) b entry h = refl
none_against a at says.Separate b entry h = refl
none_against a at (says.Entry name) b entry h = ap (λ (x : Bool). undefined_where (not x)) entry
none_against a at (says.Stack n) b entry h = refl
none_against a at (says.Instruction i) b entry (insn, e, h) =
    let (x, e', displacement) = then_defined a i.displacement (put_under a with_immediate i.immediate i.insn) insn e in
    let immediate = put_defined a with_immediate i.immediate i.insn x e' in
    ap undefined_where (ap (λ (x : Bool). x || is_undefined_if a i.displacement) immediate ∙ displacement)
none_against a at (says.Branch k target) b entry (x, e, chosen, n) =
    let chosen' = subst (λ (m : ℕ). Chosen (branch_by k (distance (at + m) x)) (branch_marks k) b) n chosen in
    not_too_far (value_under a target) (λ y. is_too_far k (distance (at + branch_length k) y)) x e (branch_reaches k (distance (at + branch_length k) x) b chosen' n)

-- ---- in bss there is nothing else

stands_in_bss : (a : LinesAbove) (at : ℕ) (t : Statement) → EntryStands a t → is_misplaced Bss (begins_with t) ≡ false → problem_at a at t ≡ None
stands_in_bss a at says.Nothing entry h = refl
stands_in_bss a at (says.Enter section) entry h = refl
stands_in_bss a at (says.Data size values) entry h = cc
stands_in_bss a at (says.Ascii bytes) entry h = cc
stands_in_bss a at (says.Space n) entry h = refl
stands_in_bss a at says.Separate entry h = refl
stands_in_bss a at (says.Entry name) entry h = ap (λ (x : Bool). undefined_where (not x)) entry
stands_in_bss a at (says.Stack n) entry h = refl
stands_in_bss a at (says.Instruction i) entry h = cc
stands_in_bss a at (says.Branch k target) entry h = cc

none_stands : (section : Section) (a : LinesAbove) (at : ℕ) (t : Statement) (b : List ℕ) → EntryStands a t → is_misplaced section (begins_with t) ≡ false
    → StandsIn section a at t b → problem_at a at t ≡ None
none_stands Text a at t b entry placed h = none_against a at t b entry h
none_stands Data a at t b entry placed h = none_against a at t b entry h
none_stands Bss a at t b entry placed h = stands_in_bss a at t entry placed

-- ---- what a line says that is taken

-- it is in its place, and it is no second .entry
pub record Placed (s : Seen) (t : Statement) : Type 0 where
  pub placed : is_misplaced s.section (begins_with t) ≡ false
  pub first : is_defined_twice s (begins_with t) ≡ false

said_is : (o : Option Statement) → is_none o ≡ false → o ≡ Some (unwrap_or o says.Nothing)
said_is None h = cc
said_is (Some t) h = refl

line_placed : (s : Seen) (t : List ℕ) (l : Line) → IsLine t l → refusal_of_line s l ≡ None → Placed s (statement_said l)
line_placed s t l line clean =
    let none = none_refused l.long (is_said_again (saying_of s l)) (is_unknown l.beginning) (is_misplaced s.section l.beginning) (is_none l.statement) _ _ _ _ _ clean in
    let begins : l.beginning ≡ begins_with (statement_said l) = line_begins t l (statement_said l) line (said_is l.statement none.2) in
    record {
      placed = ap (is_misplaced s.section) (sym begins) ∙ none.1;
      first = ap (is_defined_twice s) (sym begins) ∙ false_right (is_defined s.names l.label) (is_defined_twice s l.beginning) (first_said (says_again s l) none.0);
    }

abbrev pub AllPlaced : Seen → List Line → Type 0
AllPlaced s [] = Unit {0}
AllPlaced s (l ∷ ls) = Placed s (statement_said l) × AllPlaced (seen_with s l) ls

all_placed : (s : Seen) (ts : List (List ℕ)) (ls : List Line) → AreLinesTaken s ts ls → AllPlaced s ls
all_placed s [] [] h = tt
all_placed s [] (l ∷ ls) h = absurd h
all_placed s (t ∷ ts) [] h = absurd h
all_placed s (t ∷ ts) (l ∷ ls) ((line, clean), more) = (line_placed s t l line clean, all_placed (seen_with s l) ts ls more)

-- ---- .entry

-- the entry that a line names is kept after those below it, since they name none
entry_one_more : (entry : Option Name) (name : Name) (s : Seen) (t : Statement) → entry ≡ Some name → s.entry ≡ true → Placed s t → entry_with entry t ≡ Some name
entry_one_more entry name s says.Nothing e h p = e
entry_one_more entry name s (says.Enter section) e h p = e
entry_one_more entry name s (says.Data size values) e h p = e
entry_one_more entry name s (says.Ascii bytes) e h p = e
entry_one_more entry name s (says.Space n) e h p = e
entry_one_more entry name s says.Separate e h p = e
entry_one_more entry name s (says.Entry other) e h p = let no : s.entry ≡ false = p.first in cc
entry_one_more entry name s (says.Stack n) e h p = e
entry_one_more entry name s (says.Instruction i) e h p = e
entry_one_more entry name s (says.Branch k target) e h p = e

some_true : (o : Option Name) (name : Name) → o ≡ Some name → is_some o ≡ true
some_true None name e = cc
some_true (Some n) name e = refl

entry_kept : (c : LinesAbove) (name : Name) (ls : List Line) → c.entry ≡ Some name → AllPlaced (seen_of c) ls → (laid_by c ls).entry ≡ Some name
entry_kept c name [] e h = e
entry_kept c name (l ∷ ls) e (here, more) =
    let d = above_with c l (statement_length (statement_said l)) in
    entry_kept d name ls
    (entry_one_more c.entry name (seen_of c) (statement_said l) e (some_true c.entry name e) here)
    (subst (λ (s : Seen). AllPlaced s ls) (sym (seen_after c l (statement_length (statement_said l)))) more)

entry_found : (a : LinesAbove) (name : Name) (o : Option SectionOffset) (n : ℕ) → address_of_label a o ≡ Some n → is_some o ≡ true
entry_found a name None n e = cc
entry_found a name (Some spot) n e = refl

-- the entry that a line names is defined, since the last one is and it is that one
entry_stands : (a c : LinesAbove) (n : ℕ) (t : Statement) → entry_under a a.entry ≡ Some n → ((name : Name) → entry_with c.entry t ≡ Some name → a.entry ≡ Some name) → EntryStands a t
entry_stands a c n says.Nothing e kept = tt
entry_stands a c n (says.Enter section) e kept = tt
entry_stands a c n (says.Data size values) e kept = tt
entry_stands a c n (says.Ascii bytes) e kept = tt
entry_stands a c n (says.Space k) e kept = tt
entry_stands a c n says.Separate e kept = tt
entry_stands a c n (says.Entry name) e kept =
    entry_found a name (label_named a.labels name) n (sym (ap (entry_under a) (kept name refl)) ∙ e)
entry_stands a c n (says.Stack k) e kept = tt
entry_stands a c n (says.Instruction i) e kept = tt
entry_stands a c n (says.Branch k target) e kept = tt

-- ---- all lines

none_first : (a c : LinesAbove) (n k : ℕ) (ls : List Line) (bs : List (List ℕ)) → a ≡ laid_by c ls → entry_under a a.entry ≡ Some n → AllPlaced (seen_of c) ls → AllStand a c.sizes ls bs
    → first_problem a c.sizes k ls ≡ None
none_first a c n k [] bs e entry placed h = refl
none_first a c n k (l ∷ ls) [] e entry placed h = absurd h
none_first a c n k (l ∷ ls) (b ∷ bs) e entry (here, more) (right, rest) =
    let d = above_with c l (statement_length (statement_said l)) in
    let at = address_of_offset a (section_offset_of c.sizes) in
    let placed : AllPlaced (seen_of d) ls = subst (λ (s : Seen). AllPlaced s ls) (sym (seen_after c l (statement_length (statement_said l)))) more in
    let is_defined = entry_stands a c n (statement_said l) entry (λ name f. ap (λ (x : LinesAbove). x.entry) e ∙ entry_kept d name ls f placed) in
    let none : problem_at a at (statement_said l) ≡ None = none_stands c.sizes.section a at (statement_said l) b is_defined here.placed right in
    let long : length b ≡ statement_length (statement_said l) = stands_length c.sizes.section a at (statement_said l) b right in
    let stand : AllStand a d.sizes ls bs = subst (λ (m : ℕ). AllStand a (sizes_after c.sizes (statement_said l) m) ls bs) long rest in
    ap (λ (p : Option Problem). fault_or p k (first_problem a d.sizes (k + 1) ls)) none ∙ none_first a d n (k + 1) ls bs e entry placed stand

-- ---- sizes

all_false : (x y z : Bool) → x ≡ false → y ≡ false → z ≡ false → (x || y || z) ≡ false
all_false x y z e f g = cc

small : (a : LinesAbove) (p : Program) → p.total ≡ total_of a → length p.text ≡ a.sizes.text → length p.symbols ≡ length a.labels → is_program_too_large a ≡ false
small a p total text symbols =
    let within = p.within in
    let whole : total_of a ≤ rounded_to_pages (total_of a) = omega arith in
    let least : rounded_to_pages (total_of a) ≤ 4194304 = subst (λ (n : ℕ). rounded_to_pages n ≤ 4194304) total within.3 in
    all_false _ _ _
    (le-ltb 1048576 a.sizes.text (subst (λ (n : ℕ). n ≤ 1048576) text within.1))
    (le-ltb 262144 (length a.labels * 16) (subst (λ (n : ℕ). n * 16 ≤ 262144) symbols within.2))
    (le-ltb 4194304 (total_of a) (omega (arith, whole, least)))

both_none : (f g : Option Fault) → f ≡ None → g ≡ None → first_of f g ≡ None
both_none f g e h = ap (λ (x : Option Fault). first_of x g) e ∙ h

not_some : (o : Option Fault) (f : Fault) → o ≡ None → o ≡ Some f → ⊥
not_some None f e g = cc
not_some (Some h) f e g = cc

pub none_made : (t : List ℕ) (ls : List Line) (p : Program) (f : Fault) → AreLinesTaken unseen (lines t) ls → AreAssembled ls p → fault_after ls ≡ Some f → ⊥
none_made t ls p f taken made told =
    let a = laid_by no_lines_above ls in
    let left : left_by no_lines_above ls (map length made.bytes) ≡ a = lengths_same _ no_lines_above no_lines_above.sizes ls made.bytes made.stand in
    let stand : AllStand a no_lines_above.sizes ls made.bytes = subst (λ (x : LinesAbove). AllStand x no_lines_above.sizes ls made.bytes) left made.stand in
    let entry : entry_under a a.entry ≡ Some p.entry = subst (λ (x : LinesAbove). entry_under x x.entry ≡ Some p.entry) left made.entry in
    let first : first_problem a no_lines_above.sizes 1 ls ≡ None = none_first a no_lines_above p.entry 1 ls made.bytes refl entry (all_placed unseen (lines t) ls taken) stand in
    let size = contents_size Text (λ b. refl) a no_lines_above ls made.bytes stand in
    let text : length p.text ≡ a.sizes.text = ap length made.text ∙ omega (arith, size, ap (λ (x : LinesAbove). x.sizes.text) left) in
    let symbols : length p.symbols ≡ length a.labels = ap length made.symbols ∙ length-map _ _ ∙ ap (λ (x : LinesAbove). length x.labels) left in
    let fits = small a p (made.total ∙ ap total_of left) text symbols in
    let large : too_large_in a ls ≡ None = ap (λ (b : Bool). cond b (Some (record { problem = TooLarge; line = number_of_last_line ls })) None) fits in
    not_some (fault_after ls) f (both_none (first_problem a no_lines_above.sizes 1 ls) (too_large_in a ls) first large) told
