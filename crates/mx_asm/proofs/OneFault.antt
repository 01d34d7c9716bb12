-- A text has one fault at most.
use Rattle.std.proofs.Common.{◌≡◌, ℕ, ◌+◌, inl, inr, List, [], ◌∷◌, sym, ◌∙◌, ap, subst, Option, Some, None}
use Rattle.mx_text.specs.Lines.{lines}
use Rattle.mx_lex.specs.Tokens.{IsLexFault}
use Rattle.mx_lex.specs.declared.kinds.LexError.{LexError}
use Rattle.mx_lex.specs.declared.kinds.LexError.TheVariants as lexical
use Rattle.mx_asm_statement.specs.declared.line.Line.{Line}
use Rattle.mx_asm_statement.specs.declared.line.Reason.{Reason}
use Rattle.mx_asm.specs.declared.fault.Problem.{Problem}
use Rattle.mx_asm.specs.declared.fault.Fault.{Fault}
use Rattle.mx_asm.specs.Layout.{Seen, unseen, seen_with, refusal_of_line}
use Rattle.mx_asm.specs.Faults.{fault_after, problem_of}
use Rattle.mx_asm.specs.Text.{TellsOf, IsLineWrong, IsFirstLineWrong, HasTextFault}
use Rattle.mx_asm.proofs.Deciding.{OneLine, NeverBoth, taken_same, taken_right, taken_not_wrong}

abbrev pub OneLexical : Type 0
OneLexical = (t : List ℕ) (e f : LexError) → IsLexFault t e → IsLexFault t f → e ≡ f

tells_same : (e : LexError) (p q : Problem) → TellsOf e p → TellsOf e q → p ≡ q
tells_same (lexical.BadByte at) p q x y = x ∙ sym y
tells_same (lexical.BadNumber at) p q x y = x ∙ sym y
tells_same (lexical.OpenText at) p q x y = x ∙ sym y
tells_same lexical.NoMemory p q x y = absurd x

reasons_same : (o : Option Reason) (r s : Reason) → o ≡ Some r → o ≡ Some s → r ≡ s
reasons_same None r s e f = cc
reasons_same (Some x) r s e f = let a : x ≡ r = cc in let b : x ≡ s = cc in sym a ∙ b

wrong_same : OneLine → NeverBoth → OneLexical → (a : Seen) (t : List ℕ) (p q : Problem) → IsLineWrong a t p → IsLineWrong a t q → p ≡ q
wrong_same one never lexical a t p q (inl (e, fault, tells)) (inl (f, other, tells')) =
    let same : f ≡ e = lexical t f e other fault in tells_same e p q tells (subst (λ (x : LexError). TellsOf x q) same tells')
wrong_same one never lexical a t p q (inl (e, fault, tells)) (inr (l, r, line, stands, is)) = absurd (never t l e line fault)
wrong_same one never lexical a t p q (inr (l, r, line, stands, is)) (inl (e, fault, tells)) = absurd (never t l e line fault)
wrong_same one never lexical a t p q (inr (l, r, line, stands, is)) (inr (k, s, other, stands', is')) =
    let same : k ≡ l = one t k l other line in
    let reason : r ≡ s = reasons_same (refusal_of_line a l) r s stands (subst (λ (x : Line). refusal_of_line a x ≡ Some s) same stands') in
    is ∙ ap problem_of reason ∙ sym is'

abbrev fault_at : Problem → ℕ → Fault
fault_at p n = record { problem = p; line = n }

fault_same : (f g : Fault) → f.problem ≡ g.problem → f.line ≡ g.line → f ≡ g
fault_same f g e h = ap (λ (p : Problem). fault_at p f.line) e ∙ ap (λ (n : ℕ). fault_at g.problem n) h

first_same : OneLine → NeverBoth → OneLexical → (s : Seen) (n : ℕ) (ts : List (List ℕ)) (f g : Fault) → IsFirstLineWrong s n ts f → IsFirstLineWrong s n ts g → f ≡ g
first_same one never lexical s n [] f g x y = absurd x
first_same one never lexical s n (t ∷ ts) f g (inl (at, wrong)) (inl (at', wrong')) = fault_same f g (wrong_same one never lexical s t f.problem g.problem wrong wrong') (at ∙ sym at')
first_same one never lexical s n (t ∷ ts) f g (inl (at, wrong)) (inr (l, taken, more)) = absurd (taken_right one never s t l f.problem taken wrong)
first_same one never lexical s n (t ∷ ts) f g (inr (l, taken, more)) (inl (at, wrong)) = absurd (taken_right one never s t l g.problem taken wrong)
first_same one never lexical s n (t ∷ ts) f g (inr (l, (line, clean), more)) (inr (k, (other, clean'), more')) =
    let same : k ≡ l = one t k l other line in
    first_same one never lexical (seen_with s l) (n + 1) ts f g more (subst (λ (x : Line). IsFirstLineWrong (seen_with s x) (n + 1) ts g) same more')

told_same : (o : Option Fault) (f g : Fault) → o ≡ Some f → o ≡ Some g → f ≡ g
told_same None f g e h = cc
told_same (Some x) f g e h = let a : x ≡ f = cc in let b : x ≡ g = cc in sym a ∙ b

pub one_fault : OneLine → NeverBoth → OneLexical → (t : List ℕ) (f g : Fault) → HasTextFault t f → HasTextFault t g → f ≡ g
one_fault one never lexical t f g (inl x) (inl y) = first_same one never lexical unseen 1 (lines t) f g x y
one_fault one never lexical t f g (inl x) (inr (ls, taken, told)) = absurd (taken_not_wrong one never unseen 1 (lines t) ls f taken x)
one_fault one never lexical t f g (inr (ls, taken, told)) (inl y) = absurd (taken_not_wrong one never unseen 1 (lines t) ls g taken y)
one_fault one never lexical t f g (inr (ls, taken, told)) (inr (ks, taken', told')) =
    let same : ks ≡ ls = taken_same one unseen (lines t) ks ls taken' taken in
    told_same (fault_after ls) f g told (subst (λ (x : List Line). fault_after x ≡ Some g) same told')
