-- What the lexer's loops add up to.
use Rattle.std.proofs.Common.{◌≡◌, ◌≢◌, ℕ, ◌+◌, ◌<◌, ◌≤◌, ◌⊎◌, inl, inr, true, false, List, [], ◌∷◌, ◌++◌, length, get_or, refl, sym, subst, arith, IsTrue, rules}
use Rattle.mx_text.specs.Bytes.{is_word_byte, is_digit}
use Rattle.mx_lex.specs.Bytes.{AllFrom, begins_word}
use Rattle.mx_lex.specs.Tokens.{Body, ends, plain, escape, Gap, none, blank, carriage_return, comment, IsToken, AreTokens, HasForm, punctuation_byte, BrokenAt, TellsLexFault, IsSlice, least}
use Rattle.mx_lex.specs.declared.kinds.LexError.{LexError}
use Rattle.mx_lex.specs.declared.kinds.LexError.TheVariants.{BadByte, BadNumber, OpenText, NoMemory}
use Rattle.mx_lex.specs.declared.kinds.Punctuation.{Punctuation}
use Rattle.mx_lex.specs.declared.kinds.TokenKind.{TokenKind}
use Rattle.mx_lex.specs.declared.kinds.TokenKind.TheVariants as kinds
use Rattle.mx_lex.specs.declared.kinds.Token.{Token}

pub either : {A B C : Type 0} → A ⊎ (C × B) → A ⊎ B
either (inl a) = inl a
either (inr (c, b)) = inr b

-- ---- the longest of its kind

pub run_over : (t : List ℕ) (a b : ℕ) → a ≤ b → (b < length t → is_word_byte (get_or t b 0) ≡ false)
    → (c : ℕ) → b < c → c ≤ length t → AllFrom is_word_byte t a c → ⊥
run_over t a b le over c more within run =
    let at_b : IsTrue (is_word_byte (get_or t b 0)) = run b le more in
    let no : is_word_byte (get_or t b 0) ≡ false = over (omega arith) in
    search (rules, at_b, no)

-- a body has no quote but in an escape, so no other body goes on over one
pub body_le : (t : List ℕ) (a b : ℕ) → Body t a b → a ≤ b
body_le t a b ends = omega arith
body_le t a b (plain p q r more) = let h : a + 1 ≤ b = body_le t (a + 1) b more in omega arith
body_le t a b (escape p q more) = let h : a + 2 ≤ b = body_le t (a + 2) b more in omega arith

pub body_over : (t : List ℕ) (a b c : ℕ) → Body t a b → get_or t b 0 ≡ 34 → Body t a c → c ≤ b
body_over t a b c x quote ends = body_le t a b x
body_over t a b c ends quote (plain p q r more) = absurd (q quote)
body_over t a b c (plain p' q' r' less) quote (plain p q r more) = body_over t (a + 1) b c less quote more
body_over t a b c (escape p' q' less) quote (plain p q r more) = absurd (r p')
body_over t a b c ends quote (escape p q more) = absurd (omega (arith, p, quote))
body_over t a b c (plain p' q' r' less) quote (escape p q more) = absurd (r' p)
body_over t a b c (escape p' q' less) quote (escape p q more) = body_over t (a + 2) b c less quote more

-- ---- no token

pub no_form : (t : List ℕ) (a : ℕ) → get_or t a 0 ≢ 10 → ((m : Punctuation) → get_or t a 0 ≢ punctuation_byte m) → get_or t a 0 ≢ 34
    → is_digit (get_or t a 0) ≡ false → begins_word t a ≡ false → (k : TokenKind) (b : ℕ) → HasForm t k a b → ⊥
no_form t a line punctuation quote digit word kinds.LineFeed b f = line f.0
no_form t a line punctuation quote digit word (kinds.Punctuation m) b f = punctuation m f.0
no_form t a line punctuation quote digit word kinds.Word b f = let h : begins_word t a ≡ true = f.0 in cc
no_form t a line punctuation quote digit word (kinds.Number n) b f = let h : is_digit (get_or t a 0) ≡ true = f.0 in cc
no_form t a line punctuation quote digit word kinds.Text b f = quote f.0

-- ---- tokens in order

pub AreTokens-snoc : (t : List ℕ) (a b : ℕ) (ks : List Token) (k : Token) → AreTokens t a ks b → Gap t b k.start → IsToken t k
    → AreTokens t a (ks ++ k ∷ []) k.end
AreTokens-snoc t a b [] k same g x = let g' : Gap t a k.start = subst (λ (v : ℕ). Gap t v k.start) (sym same) g in (g', x, refl)
AreTokens-snoc t a b (j ∷ ks) k (g', x', rest) g x = (g', x', AreTokens-snoc t j.end b ks k rest g x)

pub form_lt : (t : List ℕ) (k : TokenKind) (a b : ℕ) → HasForm t k a b → a < b
form_lt t kinds.LineFeed a b f = omega (arith, f.1)
form_lt t (kinds.Punctuation m) a b f = omega (arith, f.1)
form_lt t kinds.Word a b f = f.1
form_lt t (kinds.Number n) a b f = f.1
form_lt t kinds.Text a b (q, e, body, r, s) = omega (arith, body_le t (a + 1) e body, s)

-- ---- faults

pub fault_of : (t : List ℕ) (e : LexError) (ks : List Token) (b a : ℕ) → AreTokens t 0 ks b → Gap t b a → BrokenAt t a e → TellsLexFault t e
fault_of t (BadByte x) ks b a ts g broken = (ks, b, a, ts, g, broken)
fault_of t (BadNumber x) ks b a ts g broken = (ks, b, a, ts, g, broken)
fault_of t (OpenText x) ks b a ts g broken = (ks, b, a, ts, g, broken)
fault_of t NoMemory ks b a ts g broken = absurd broken

pub gap_le : (t : List ℕ) (a b : ℕ) → Gap t a b → a ≤ b
gap_le t a b none = omega arith
gap_le t a b (blank p more) = let h : a + 1 ≤ b = gap_le t (a + 1) b more in omega arith
gap_le t a b (carriage_return p q more) = let h : a + 1 ≤ b = gap_le t (a + 1) b more in omega arith
gap_le t a b (comment {c = c} p lt q r more) = let h : c ≤ b = gap_le t c b more in omega arith

pub slice_of : (t : List ℕ) (k : Token) → IsToken t k → IsSlice t k
slice_of t k x = (long k.kind k.end x.form, x.within)
  where
    long : (kind : TokenKind) (end : ℕ) → HasForm t kind k.start end → k.start + least kind ≤ end
    long kinds.LineFeed end f = omega (arith, f.1)
    long (kinds.Punctuation m) end f = omega (arith, f.1)
    long kinds.Word end f = omega (arith, f.1)
    long (kinds.Number n) end f = omega (arith, f.1)
    long kinds.Text end (q, e, body, r, s) = omega (arith, body_le t (k.start + 1) e body, s)
