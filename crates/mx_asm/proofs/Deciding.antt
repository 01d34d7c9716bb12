-- A text has a program or a fault, and one program at most.
use Rattle.std.proofs.Common.{◌≡◌, ℕ, ◌+◌, inl, inr, List, [], ◌∷◌, length, map, refl, sym, ◌∙◌, ap, subst, Option, Some, None}
use Rattle.std.specs.List.{flat_map}
use Rattle.mx_word.specs.Word.{bytes_of, bytes_in}
use Rattle.mx_insn.specs.declared.insn.Insn.{Insn}
use Rattle.mx_encode.specs.declared.Wide.{Wide}
use Rattle.mx_encode.specs.Chosen.{Chosen}
use Rattle.mx_text.specs.Lines.{lines}
use Rattle.mx_lex.specs.Tokens.{IsLexFault}
use Rattle.mx_lex.specs.declared.kinds.LexError.{LexError}
use Rattle.mx_lex.specs.declared.kinds.LexError.TheVariants as lexical
use Rattle.mx_asm_statement.specs.declared.statement.Section.{Section}
use Rattle.mx_asm_statement.specs.declared.statement.Section.TheVariants.{Text, Data, Bss}
use Rattle.mx_asm_statement.specs.declared.statement.Statement.{Statement}
use Rattle.mx_asm_statement.specs.declared.statement.Statement.TheVariants as says
use Rattle.mx_asm_statement.specs.declared.line.Line.{Line}
use Rattle.mx_asm_statement.specs.declared.line.Reason.{Reason}
use Rattle.mx_asm_statement.specs.Instructions.{marks}
use Rattle.mx_asm_statement.specs.Lines.{IsLine}
use Rattle.mx_aout.specs.declared.program.Program.{Program}
use Rattle.mx_aout.specs.Alike.{AreAlike}
use Rattle.mx_asm.specs.declared.fault.Problem.{Problem}
use Rattle.mx_asm.specs.declared.fault.Problem.TheVariants.{BadByte, BadNumber, OpenText}
use Rattle.mx_asm.specs.declared.fault.Fault.{Fault}
use Rattle.mx_asm.specs.declared.sizes.SectionSizes.{SectionSizes}
use Rattle.mx_asm.specs.Branches.{branch_by, branch_marks, distance}
use Rattle.mx_asm.specs.Layout.{LinesAbove, Seen, no_lines_above, unseen, seen_with, statement_said, refusal_of_line, left_by, address_of_offset, section_offset_of, sizes_after}
use Rattle.mx_asm.specs.Bytes.{AllStand, BytesOf, StandsIn, contents}
use Rattle.mx_asm.specs.Faults.{fault_after, problem_of, total_of}
use Rattle.mx_asm.specs.Assembled.{AreAssembled, symbol_under, entry_under}
use Rattle.mx_asm.specs.Text.{IsLineTaken, AreLinesTaken, IsLineWrong, IsFirstLineWrong, AreLinesAccepted, IsAssembled, HasTextFault}
use Rattle.mx_asm.proofs.Emitting.{lengths_same}

abbrev pub OneLine : Type 0
OneLine = (t : List ℕ) (a b : Line) → IsLine t a → IsLine t b → a ≡ b

abbrev pub NeverBoth : Type 0
NeverBoth = (t : List ℕ) (l : Line) (e : LexError) → IsLine t l → IsLexFault t e → ⊥

abbrev pub NeverNeither : Type 0
NeverNeither = (t : List ℕ) → ((l : Line) → IsLine t l → ⊥) → ((e : LexError) → IsLexFault t e → ⊥) → ⊥

abbrev pub OneChosen : Type 0
OneChosen = (i : Insn) (wide : Wide) (a b : List ℕ) → Chosen i wide a → Chosen i wide b → a ≡ b

-- ---- a line that is taken isn't wrong

not_some : (o : Option Reason) (r : Reason) → o ≡ None → o ≡ Some r → ⊥
not_some None r e f = cc
not_some (Some s) r e f = cc

pub taken_right : OneLine → NeverBoth → (s : Seen) (t : List ℕ) (l : Line) (p : Problem) → IsLineTaken s t l → IsLineWrong s t p → ⊥
taken_right one never s t l p (line, clean) (inl (e, fault, tells)) = never t l e line fault
taken_right one never s t l p (line, clean) (inr (k, r, other, stands, problem)) =
    let same : k ≡ l = one t k l other line in
    not_some (refusal_of_line s l) r clean (subst (λ (x : Line). refusal_of_line s x ≡ Some r) same stands)

pub taken_not_wrong : OneLine → NeverBoth → (s : Seen) (n : ℕ) (ts : List (List ℕ)) (ls : List Line) (f : Fault) → AreLinesTaken s ts ls → IsFirstLineWrong s n ts f → ⊥
taken_not_wrong one never s n [] ls f x wrong = wrong
taken_not_wrong one never s n (t ∷ ts) [] f x wrong = x
taken_not_wrong one never s n (t ∷ ts) (l ∷ ls) f (taken, more) (inl (at, wrong)) = taken_right one never s t l f.problem taken wrong
taken_not_wrong one never s n (t ∷ ts) (l ∷ ls) f ((line, clean), more) (inr (k, (other, clean'), wrong)) =
    let same : k ≡ l = one t k l other line in
    taken_not_wrong one never (seen_with s l) (n + 1) ts ls f more (subst (λ (x : Line). IsFirstLineWrong (seen_with s x) (n + 1) ts f) same wrong)

pub taken_same : OneLine → (s : Seen) (ts : List (List ℕ)) (ls ks : List Line) → AreLinesTaken s ts ls → AreLinesTaken s ts ks → ls ≡ ks
taken_same one s [] [] [] x y = refl
taken_same one s [] [] (k ∷ ks) x y = absurd y
taken_same one s [] (l ∷ ls) ks x y = absurd x
taken_same one s (t ∷ ts) [] ks x y = absurd x
taken_same one s (t ∷ ts) (l ∷ ls) [] x y = absurd y
taken_same one s (t ∷ ts) (l ∷ ls) (k ∷ ks) ((line, clean), more) ((other, clean'), more') =
    let same : k ≡ l = one t k l other line in
    let rest : ls ≡ ks = taken_same one (seen_with s l) ts ls ks more (subst (λ (x : Line). AreLinesTaken (seen_with s x) ts ks) same more') in
    cc

-- no program is made of lines with a fault
abbrev pub NoneMade : Type 0
NoneMade = (t : List ℕ) (ls : List Line) (p : Program) (f : Fault) → AreLinesTaken unseen (lines t) ls → AreAssembled ls p → fault_after ls ≡ Some f → ⊥

pub never_program_and_fault : OneLine → NeverBoth → NoneMade → (t : List ℕ) (p : Program) (f : Fault) → IsAssembled t p → HasTextFault t f → ⊥
never_program_and_fault one never none t p f (ls, taken, made) (inl wrong) = taken_not_wrong one never unseen 1 _ ls f taken wrong
never_program_and_fault one never none t p f (ls, taken, made) (inr (ks, taken', told)) =
    let same : ks ≡ ls = taken_same one unseen _ ks ls taken' taken in
    none t ls p f taken made (subst (λ (x : List Line). fault_after x ≡ Some f) same told)

-- ---- all lines are taken, or one is the first that is wrong

wrong_bytes : (s : Seen) (t : List ℕ) (e : LexError) → IsLexFault t e → ((p : Problem) → IsLineWrong s t p → ⊥) → ⊥
wrong_bytes s t (lexical.BadByte at) h k = k BadByte (inl (lexical.BadByte at, h, refl))
wrong_bytes s t (lexical.BadNumber at) h k = k BadNumber (inl (lexical.BadNumber at, h, refl))
wrong_bytes s t (lexical.OpenText at) h k = k OpenText (inl (lexical.OpenText at, h, refl))
wrong_bytes s t lexical.NoMemory (ks, b, c, tokens, gap, broken) k = broken

taken_or_wrong : NeverNeither → (s : Seen) (n : ℕ) (ts : List (List ℕ)) → ((ls : List Line) → AreLinesTaken s ts ls → ⊥) → ((f : Fault) → IsFirstLineWrong s n ts f → ⊥) → ⊥
taken_or_wrong law s n [] taken wrong = taken [] tt
taken_or_wrong law s n (t ∷ ts) taken wrong =
    law t (λ l line. by_reason l line (refusal_of_line s l) refl (λ more worse. taken_or_wrong law (seen_with s l) (n + 1) ts more worse))
    (λ e fault. wrong_bytes s t e fault (λ p h. wrong (record { problem = p; line = n }) (inl (refl, h))))
  where
    by_reason : (l : Line) → IsLine t l → (o : Option Reason) → refusal_of_line s l ≡ o
        → (((ls : List Line) → AreLinesTaken (seen_with s l) ts ls → ⊥) → ((f : Fault) → IsFirstLineWrong (seen_with s l) (n + 1) ts f → ⊥) → ⊥) → ⊥
    by_reason l line None e again = again (λ ls h. taken (l ∷ ls) ((line, e), h)) (λ f h. wrong f (inr (l, (line, e), h)))
    by_reason l line (Some r) e again = wrong (record { problem = problem_of r; line = n }) (inl (refl, inr (l, r, line, e, refl)))

pub never_neither : NeverNeither → ((t : List ℕ) (ls : List Line) → AreLinesAccepted t ls → (p : Program) × IsAssembled t p) → (t : List ℕ) → ((p : Program) → IsAssembled t p → ⊥) → ((f : Fault) → HasTextFault t f → ⊥) → ⊥
never_neither law have t no_program no_fault = taken_or_wrong law unseen 1 _ (λ ls taken. by_fault ls taken (fault_after ls) refl) (λ f wrong. no_fault f (inl wrong))
  where
    by_fault : (ls : List Line) → AreLinesTaken unseen (lines t) ls → (o : Option Fault) → fault_after ls ≡ o → ⊥
    by_fault ls taken None e = let (p, made) = have t ls (taken, e) in no_program p made
    by_fault ls taken (Some f) e = no_fault f (inr (ls, taken, e))

-- ---- the bytes of a statement

somes_same : (xs ys : List ℕ) → map Some xs ≡ map Some ys → xs ≡ ys
somes_same [] [] e = refl
somes_same [] (y ∷ ys) e = cc
somes_same (x ∷ xs) [] e = cc
somes_same (x ∷ xs) (y ∷ ys) e = let rest : xs ≡ ys = somes_same xs ys cc in let here : x ≡ y = cc in cc

bytes_same : OneChosen → (a : LinesAbove) (at : ℕ) (t : Statement) (b c : List ℕ) → BytesOf a at t b → BytesOf a at t c → b ≡ c
bytes_same one a at says.Nothing b c x y = x ∙ sym y
bytes_same one a at (says.Enter section) b c x y = x ∙ sym y
bytes_same one a at (says.Data size values) b c (ns, e, x) (ms, f, y) =
    let same : ns ≡ ms = somes_same ns ms (sym e ∙ f) in x ∙ ap (flat_map (bytes_of (bytes_in size))) same ∙ sym y
bytes_same one a at (says.Ascii bytes) b c x y = x ∙ sym y
bytes_same one a at (says.Space n) b c x y = x ∙ sym y
bytes_same one a at says.Separate b c x y = x ∙ sym y
bytes_same one a at (says.Entry name) b c x y = x ∙ sym y
bytes_same one a at (says.Stack n) b c x y = x ∙ sym y
bytes_same one a at (says.Instruction i) b c (insn, e, x) (other, f, y) =
    let same : other ≡ insn = cc in one insn (marks i) b c x (subst (λ (z : Insn). Chosen z (marks i) c) same y)
bytes_same one a at (says.Branch k target) b c (x, e, chosen, n) (y, f, chosen', m) =
    let same : y ≡ x = cc in
    let long : length c ≡ length b = m ∙ sym n in
    one (branch_by k (distance (at + length b) x)) (branch_marks k) b c chosen
    (subst (λ (z : ℕ). Chosen (branch_by k (distance (at + length b) z)) (branch_marks k) c) same (subst (λ (z : ℕ). Chosen (branch_by k (distance (at + z) y)) (branch_marks k) c) long chosen'))

stands_same : OneChosen → (section : Section) (a : LinesAbove) (at : ℕ) (t : Statement) (b c : List ℕ) → StandsIn section a at t b → StandsIn section a at t c → b ≡ c
stands_same one Text a at t b c x y = bytes_same one a at t b c x y
stands_same one Data a at t b c x y = bytes_same one a at t b c x y
stands_same one Bss a at t b c x y = x ∙ sym y

all_same : OneChosen → (a : LinesAbove) (s : SectionSizes) (ls : List Line) (bs cs : List (List ℕ)) → AllStand a s ls bs → AllStand a s ls cs → bs ≡ cs
all_same one a s [] [] [] x y = refl
all_same one a s [] [] (c ∷ cs) x y = absurd y
all_same one a s [] (b ∷ bs) cs x y = absurd x
all_same one a s (l ∷ ls) [] cs x y = absurd x
all_same one a s (l ∷ ls) (b ∷ bs) [] x y = absurd y
all_same one a s (l ∷ ls) (b ∷ bs) (c ∷ cs) (x, xs) (y, ys) =
    let same : c ≡ b = stands_same one s.section a (address_of_offset a (section_offset_of s)) (statement_said l) c b y x in
    let rest : bs ≡ cs = all_same one a (sizes_after s (statement_said l) (length b)) ls bs cs xs (subst (λ (z : List ℕ). AllStand a (sizes_after s (statement_said l) (length z)) ls cs) same ys) in
    cc

-- ---- one program

some_same : (x y : ℕ) → Some x ≡ Some y → x ≡ y
some_same x y e = cc

lines_program : OneChosen → (ls : List Line) (p q : Program) → AreAssembled ls p → AreAssembled ls q → AreAlike p q
lines_program one ls p q x y =
    let a = left_by no_lines_above ls (map length x.bytes) in
    let left : left_by no_lines_above ls (map length y.bytes) ≡ a = lengths_same _ no_lines_above no_lines_above.sizes ls y.bytes y.stand ∙ sym (lengths_same a no_lines_above no_lines_above.sizes ls x.bytes x.stand) in
    let stand : AllStand a no_lines_above.sizes ls y.bytes = subst (λ (z : LinesAbove). AllStand z no_lines_above.sizes ls y.bytes) left y.stand in
    let bytes : x.bytes ≡ y.bytes = all_same one a no_lines_above.sizes ls x.bytes y.bytes x.stand stand in
    let back : a ≡ left_by no_lines_above ls (map length y.bytes) = sym left in
    record {
      sep = x.sep ∙ ap (λ (z : LinesAbove). z.sep) back ∙ sym y.sep;
      entry = some_same p.entry q.entry (sym x.entry ∙ ap (λ (z : LinesAbove). entry_under z z.entry) back ∙ y.entry);
      total = x.total ∙ ap total_of back ∙ sym y.total;
      text = x.text ∙ ap (contents Text no_lines_above.sizes ls) bytes ∙ sym y.text;
      init = x.init ∙ ap (contents Data no_lines_above.sizes ls) bytes ∙ sym y.init;
      bss = x.bss ∙ ap (λ (z : LinesAbove). z.sizes.bss) back ∙ sym y.bss;
      symbols = x.symbols ∙ ap (λ (z : LinesAbove). map (symbol_under z) z.labels) back ∙ sym y.symbols;
    }

pub one_program : OneLine → OneChosen → (t : List ℕ) (p q : Program) → IsAssembled t p → IsAssembled t q → AreAlike p q
one_program one chosen t p q (ls, taken, made) (ks, taken', made') =
    let same : ks ≡ ls = taken_same one unseen _ ks ls taken' taken in
    lines_program chosen ls p q made (subst (λ (x : List Line). AreAssembled x q) same made')
