-- The lines that are kept, against all lines of the text.
use Rattle.std.proofs.Common.{arith, add-zero, ◌≡◌, ℕ, ◌+◌, ◌*◌, ◌<◌, ◌^◌, Bool, true, false, List, [], ◌∷◌, ◌++◌, length, get_or, drop, map, refl, sym, ◌∙◌, ap, subst, cond, Option, Some, None, length-append}
use Rattle.std.specs.Prelude.{is_some, not}
use Rattle.std.proofs.lemmas.List.{append-nil, drop_more, drop-map}
use Rattle.mx_asm_statement.specs.declared.line.Line.{Line}
use Rattle.mx_asm_statement.specs.declared.statement.Section.{Section}
use Rattle.mx_asm_statement.specs.declared.statement.Section.TheVariants.{Text, Data, Bss}
use Rattle.mx_asm_statement.specs.declared.statement.Statement.{Statement}
use Rattle.mx_asm_statement.specs.declared.statement.Statement.TheVariants as says
use Rattle.mx_asm.specs.declared.fault.Fault.{Fault}
use Rattle.mx_asm.specs.declared.fault.Problem.{Problem}
use Rattle.mx_asm.specs.declared.numbered.NumberedLine.{NumberedLine}
use Rattle.mx_asm.specs.declared.sizes.SectionSizes.{SectionSizes}
use Rattle.mx_asm.specs.Bytes.{AllStand, AreParts, StandsIn, contents, put_into}
use Rattle.mx_asm.specs.Faults.{fault_after, fault_or, first_of, first_problem, problem_at, too_large_in}
use Rattle.mx_asm.specs.Kept.{AreKept, is_nothing, says_something, line_kept, lines_kept, first_problem_kept}
use Rattle.mx_asm.specs.Layout.{LinesAbove, no_lines_above, laid_by, GrowsWithin, SizesWithin, address_of_offset, grown_in, section_offset_of, sizes_after, statement_said}
use Rattle.mx_asm.specs.Lengths.{statement_length}
use Rattle.mx_asm.proofs.Seeing.{false_right}
use Rattle.mx_asm.proofs.Standing.{neither, sizes_more}

-- ---- a line that says nothing

nothing_said : (t : Statement) → not (is_nothing t) ≡ false → t ≡ says.Nothing
nothing_said says.Nothing h = refl
nothing_said (says.Enter section) h = cc
nothing_said (says.Data size values) h = cc
nothing_said (says.Ascii bytes) h = cc
nothing_said (says.Space k) h = cc
nothing_said says.Separate h = cc
nothing_said (says.Entry name) h = cc
nothing_said (says.Stack k) h = cc
nothing_said (says.Instruction i) h = cc
nothing_said (says.Branch k target) h = cc

silent : (l : Line) → says_something l ≡ false → statement_said l ≡ says.Nothing
silent l h = nothing_said (statement_said l) (false_right (is_some l.label) (not (is_nothing (statement_said l))) h)

same_grown : (s : SectionSizes) (z : Section) → grown_in s z 0 ≡ s
same_grown s Text = ap (λ (n : ℕ). record s { text = n }) (add-zero s.text)
same_grown s Data = ap (λ (n : ℕ). record s { init = n }) (add-zero s.init)
same_grown s Bss = ap (λ (n : ℕ). record s { bss = n }) (add-zero s.bss)

silent_sizes : (s : SectionSizes) (l : Line) → says_something l ≡ false → sizes_after s (statement_said l) 0 ≡ s
silent_sizes s l h = ap (λ (t : Statement). sizes_after s t 0) (silent l h) ∙ same_grown s s.section

silent_line : (s : SectionSizes) (l : Line) → says_something l ≡ false → sizes_after s (statement_said l) (statement_length (statement_said l)) ≡ s
silent_line s l h = ap (λ (t : Statement). sizes_after s t (statement_length t)) (silent l h) ∙ same_grown s s.section

-- ---- one line more

pub kept_more : (n m : ℕ) (ls : List Line) (l : Line) → m ≡ n + length ls → lines_kept n (ls ++ l ∷ []) ≡ lines_kept n ls ++ line_kept m l
kept_more n m [] l e = let same : m ≡ n = omega (arith, e) in ap (λ (x : ℕ). line_kept x l) (sym same)
kept_more n m (k ∷ ls) l e =
    let later : m ≡ (n + 1) + length ls = omega (arith, e) in by_case (says_something k) (kept_more (n + 1) m ls l later)
  where
    by_case : (b : Bool) → lines_kept (n + 1) (ls ++ l ∷ []) ≡ lines_kept (n + 1) ls ++ line_kept m l
        → cond b (record { number = n; line = k } ∷ lines_kept (n + 1) (ls ++ l ∷ [])) (lines_kept (n + 1) (ls ++ l ∷ []))
        ≡ cond b (record { number = n; line = k } ∷ lines_kept (n + 1) ls) (lines_kept (n + 1) ls) ++ line_kept m l
    by_case true h = ap (λ (x : List NumberedLine). record { number = n; line = k } ∷ x) h
    by_case false h = h

pub one_kept : (n : ℕ) (l : Line) (old new : List NumberedLine) → says_something l ≡ true → new ≡ old ++ record { number = n; line = l } ∷ [] → new ≡ old ++ line_kept n l
one_kept n l old new h e = e ∙ ap (λ (b : Bool). old ++ cond b (record { number = n; line = l } ∷ []) []) (sym h)

pub none_kept : (n : ℕ) (l : Line) (old new : List NumberedLine) → says_something l ≡ false → new ≡ old → new ≡ old ++ line_kept n l
none_kept n l old new h e = e ∙ sym (append-nil old) ∙ ap (λ (b : Bool). old ++ cond b (record { number = n; line = l } ∷ []) []) (sym h)

pub sizes_kept : (s r : SectionSizes) (m : ℕ) (l : Line) (old now : List NumberedLine) → SizesWithin s (length old * 2 ^ 64)
    → r ≡ sizes_after s (statement_said l) (statement_length (statement_said l)) → GrowsWithin s r (2 ^ 64) → now ≡ old ++ line_kept m l → SizesWithin r (length now * 2 ^ 64)
sizes_kept s r m l old now before same grows is = by_case (says_something l) refl is
  where
    by_case : (b : Bool) → says_something l ≡ b → now ≡ old ++ cond b (record { number = m; line = l } ∷ []) [] → SizesWithin r (length now * 2 ^ 64)
    by_case true h e = sizes_more s r (length old) (length now) before grows (ap length e ∙ length-append old (record { number = m; line = l } ∷ []))
    by_case false h e =
        subst (λ (x : SectionSizes). SizesWithin x (length now * 2 ^ 64)) (sym (same ∙ silent_line s l h))
        (subst (λ (x : List NumberedLine). SizesWithin s (length x * 2 ^ 64)) (sym (e ∙ append-nil old)) before)

-- ---- problems

pub problems_kept : (a : LinesAbove) (s : SectionSizes) (n : ℕ) (ls : List Line) → first_problem a s n ls ≡ first_problem_kept a s (lines_kept n ls)
problems_kept a s n [] = refl
problems_kept a s n (l ∷ ls) =
    by_case (says_something l) refl (problems_kept a (sizes_after s (statement_said l) (statement_length (statement_said l))) (n + 1) ls) (problems_kept a s (n + 1) ls)
  where
    at : ℕ
    at = address_of_offset a (section_offset_of s)

    next : SectionSizes
    next = sizes_after s (statement_said l) (statement_length (statement_said l))

    by_case : (b : Bool) → says_something l ≡ b → first_problem a next (n + 1) ls ≡ first_problem_kept a next (lines_kept (n + 1) ls)
        → first_problem a s (n + 1) ls ≡ first_problem_kept a s (lines_kept (n + 1) ls)
        → first_problem a s n (l ∷ ls) ≡ first_problem_kept a s (cond b (record { number = n; line = l } ∷ lines_kept (n + 1) ls) (lines_kept (n + 1) ls))
    by_case true h rest same = ap (fault_or (problem_at a at (statement_said l)) n) rest
    by_case false h rest same =
        ap (λ (t : Statement). fault_or (problem_at a at t) n (first_problem a next (n + 1) ls)) (silent l h)
        ∙ ap (λ (x : SectionSizes). first_problem a x (n + 1) ls) (silent_line s l h)
        ∙ same

pub next_kept : (i : ℕ) (ks : List NumberedLine) (k : NumberedLine) → i < length ks → k ≡ get_or ks i k → drop i ks ≡ k ∷ drop (i + 1) ks
next_kept i ks k h e = drop_more ks i k h ∙ ap (λ (x : NumberedLine). x ∷ drop (i + 1) ks) (sym e)

pub problem_on : (a : LinesAbove) (s r : SectionSizes) (i : ℕ) (ks : List NumberedLine) (k : NumberedLine) → drop i ks ≡ k ∷ drop (i + 1) ks
    → problem_at a (address_of_offset a (section_offset_of s)) (statement_said k.line) ≡ None → r ≡ sizes_after s (statement_said k.line) (statement_length (statement_said k.line))
    → first_problem_kept a s (drop i ks) ≡ first_problem_kept a r (drop (i + 1) ks)
problem_on a s r i ks k next none same =
    let rest : Option Fault = first_problem_kept a (sizes_after s (statement_said k.line) (statement_length (statement_said k.line))) (drop (i + 1) ks) in
    ap (first_problem_kept a s) next ∙ ap (λ (p : Option Problem). fault_or p k.number rest) none ∙ ap (λ (x : SectionSizes). first_problem_kept a x (drop (i + 1) ks)) (sym same)

-- the next line has no fault, nor have those after it
pub clean_here : (a : LinesAbove) (s : SectionSizes) (i : ℕ) (ks : List NumberedLine) (k : NumberedLine) → drop i ks ≡ k ∷ drop (i + 1) ks → first_problem_kept a s (drop i ks) ≡ None
    → problem_at a (address_of_offset a (section_offset_of s)) (statement_said k.line) ≡ None
clean_here a s i ks k next e =
    let rest : Option Fault = first_problem_kept a (sizes_after s (statement_said k.line) (statement_length (statement_said k.line))) (drop (i + 1) ks) in
    (neither (problem_at a (address_of_offset a (section_offset_of s)) (statement_said k.line)) k.number rest (sym (ap (first_problem_kept a s) next) ∙ e)).0

pub clean_on : (a : LinesAbove) (s r : SectionSizes) (i : ℕ) (ks : List NumberedLine) (k : NumberedLine) → drop i ks ≡ k ∷ drop (i + 1) ks → first_problem_kept a s (drop i ks) ≡ None
    → r ≡ sizes_after s (statement_said k.line) (statement_length (statement_said k.line)) → first_problem_kept a r (drop (i + 1) ks) ≡ None
clean_on a s r i ks k next e same =
    let rest : Option Fault = first_problem_kept a (sizes_after s (statement_said k.line) (statement_length (statement_said k.line))) (drop (i + 1) ks) in
    let both = neither (problem_at a (address_of_offset a (section_offset_of s)) (statement_said k.line)) k.number rest (sym (ap (first_problem_kept a s) next) ∙ e) in
    ap (λ (x : SectionSizes). first_problem_kept a x (drop (i + 1) ks)) same ∙ both.1

-- ---- bytes

abbrev pub line_in : NumberedLine → Line
line_in k = k.line

pub next_line : (i : ℕ) (ks : List NumberedLine) (k : NumberedLine) → drop i ks ≡ k ∷ drop (i + 1) ks → drop i (map line_in ks) ≡ k.line ∷ drop (i + 1) (map line_in ks)
next_line i ks k next = drop-map line_in i ks ∙ ap (map line_in) next ∙ ap (λ (x : List Line). k.line ∷ x) (sym (drop-map line_in (i + 1) ks))

put_nothing : (section z : Section) → put_into section z [] ≡ []
put_nothing Text Text = refl
put_nothing Text Data = refl
put_nothing Text Bss = refl
put_nothing Data Text = refl
put_nothing Data Data = refl
put_nothing Data Bss = refl
put_nothing Bss Text = refl
put_nothing Bss Data = refl
put_nothing Bss Bss = refl

nothing_stands : (a : LinesAbove) (at : ℕ) (z : Section) → StandsIn z a at says.Nothing []
nothing_stands a at Text = refl
nothing_stands a at Data = refl
nothing_stands a at Bss = refl

-- bytes for the lines that are kept give bytes for all lines, which are the same in text and data
record Filled (a : LinesAbove) (s : SectionSizes) (ls : List Line) (text init : List ℕ) : Type 0 where
  all : List (List ℕ)
  stand : AllStand a s ls all
  text_is : contents Text s ls all ≡ text
  init_is : contents Data s ls all ≡ init

with_one : (a : LinesAbove) (s : SectionSizes) (l : Line) (ls : List Line) (b : List ℕ) (text init : List ℕ) → StandsIn s.section a (address_of_offset a (section_offset_of s)) (statement_said l) b
    → Filled a (sizes_after s (statement_said l) (length b)) ls text init → Filled a s (l ∷ ls) (put_into Text s.section b ++ text) (put_into Data s.section b ++ init)
with_one a s l ls b text init right f = record {
  all = b ∷ f.all;
  stand = (right, f.stand);
  text_is = ap (λ (x : List ℕ). put_into Text s.section b ++ x) f.text_is;
  init_is = ap (λ (x : List ℕ). put_into Data s.section b ++ x) f.init_is;
}

with_none : (a : LinesAbove) (s : SectionSizes) (l : Line) (ls : List Line) (text init : List ℕ) → says_something l ≡ false → Filled a s ls text init → Filled a s (l ∷ ls) text init
with_none a s l ls text init h f =
    let right = subst (λ (t : Statement). StandsIn s.section a (address_of_offset a (section_offset_of s)) t []) (sym (silent l h)) (nothing_stands a (address_of_offset a (section_offset_of s)) s.section) in
    let one = with_one a s l ls [] text init right (subst (λ (x : SectionSizes). Filled a x ls text init) (sym (silent_sizes s l h)) f) in
    subst (λ (t : List ℕ). Filled a s (l ∷ ls) text (t ++ init)) (put_nothing Data s.section) (subst (λ (t : List ℕ). Filled a s (l ∷ ls) (t ++ text) (put_into Data s.section [] ++ init)) (put_nothing Text s.section) one)

filled : (a : LinesAbove) (s : SectionSizes) (n : ℕ) (ls : List Line) (bs : List (List ℕ)) → AllStand a s (map line_in (lines_kept n ls)) bs
    → Filled a s ls (contents Text s (map line_in (lines_kept n ls)) bs) (contents Data s (map line_in (lines_kept n ls)) bs)
filled a s n [] [] h = record { all = []; stand = tt; text_is = refl; init_is = refl }
filled a s n [] (b ∷ bs) h = absurd h
filled a s n (l ∷ ls) bs h = by_case (says_something l) refl bs h (λ t cs. filled a t (n + 1) ls cs)
  where
    by_case : (c : Bool) → says_something l ≡ c → (bs : List (List ℕ)) → AllStand a s (map line_in (cond c (record { number = n; line = l } ∷ lines_kept (n + 1) ls) (lines_kept (n + 1) ls))) bs
        → ((t : SectionSizes) (cs : List (List ℕ)) → AllStand a t (map line_in (lines_kept (n + 1) ls)) cs
        → Filled a t ls (contents Text t (map line_in (lines_kept (n + 1) ls)) cs) (contents Data t (map line_in (lines_kept (n + 1) ls)) cs))
        → Filled a s (l ∷ ls) (contents Text s (map line_in (cond c (record { number = n; line = l } ∷ lines_kept (n + 1) ls) (lines_kept (n + 1) ls))) bs)
        (contents Data s (map line_in (cond c (record { number = n; line = l } ∷ lines_kept (n + 1) ls) (lines_kept (n + 1) ls))) bs)
    by_case true e [] h rest = absurd h
    by_case true e (b ∷ bs) (right, more) rest =
        with_one a s l ls b (contents Text (sizes_after s (statement_said l) (length b)) (map line_in (lines_kept (n + 1) ls)) bs) (contents Data (sizes_after s (statement_said l) (length b)) (map line_in (lines_kept (n + 1) ls)) bs) right
        (rest (sizes_after s (statement_said l) (length b)) bs more)
    by_case false e bs h rest =
        with_none a s l ls (contents Text s (map line_in (lines_kept (n + 1) ls)) bs) (contents Data s (map line_in (lines_kept (n + 1) ls)) bs) e (rest s bs h)

pub parts_kept : (a : LinesAbove) (s : SectionSizes) (n : ℕ) (ls : List Line) (ks : List NumberedLine) (text init : List ℕ) → ks ≡ lines_kept n ls → AreParts a s (map line_in ks) text init → AreParts a s ls text init
parts_kept a s n ls ks text init is p =
    let f = filled a s n ls p.bytes (subst (λ (x : List NumberedLine). AllStand a s (map line_in x) p.bytes) is p.stand) in record {
      bytes = f.all;
      stand = f.stand;
      text_is = p.text_is ∙ ap (λ (x : List NumberedLine). contents Text s (map line_in x) p.bytes) is ∙ sym f.text_is;
      init_is = p.init_is ∙ ap (λ (x : List NumberedLine). contents Data s (map line_in x) p.bytes) is ∙ sym f.init_is;
    }

-- ---- what is known of lines by those that are kept

decided : (a : LinesAbove) (ks : List NumberedLine) (count : ℕ) (ls : List Line) (found : Option Fault) → AreKept ls ks count → a ≡ laid_by no_lines_above ls → found ≡ first_problem_kept a no_lines_above.sizes ks
    → fault_after ls ≡ first_of found (too_large_in a ls)
decided a ks count ls found kept laid is =
    ap (λ (x : LinesAbove). first_of (first_problem x no_lines_above.sizes 1 ls) (too_large_in x ls)) (sym laid)
    ∙ ap (λ (o : Option Fault). first_of o (too_large_in a ls)) (problems_kept a no_lines_above.sizes 1 ls ∙ ap (first_problem_kept a no_lines_above.sizes) (sym kept.0) ∙ sym is)

pub told_line : (a : LinesAbove) (ks : List NumberedLine) (count : ℕ) (ls : List Line) (found : Option Fault) (f : Fault) → AreKept ls ks count → a ≡ laid_by no_lines_above ls → found ≡ first_problem_kept a no_lines_above.sizes ks
    → found ≡ Some f → Some f ≡ fault_after ls
told_line a ks count ls found f kept laid is some = ap (λ (o : Option Fault). first_of o (too_large_in a ls)) (sym some) ∙ sym (decided a ks count ls found kept laid is)

pub told_size : (a : LinesAbove) (ks : List NumberedLine) (count : ℕ) (ls : List Line) (found large : Option Fault) → AreKept ls ks count → a ≡ laid_by no_lines_above ls → found ≡ first_problem_kept a no_lines_above.sizes ks
    → found ≡ None → large ≡ too_large_in a ls → large ≡ fault_after ls
told_size a ks count ls found large kept laid is none big =
    big ∙ ap (λ (o : Option Fault). first_of o (too_large_in a ls)) (sym none) ∙ sym (decided a ks count ls found kept laid is)
