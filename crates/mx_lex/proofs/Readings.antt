-- A text has one reading.
use Rattle.std.proofs.Common.{◌≡◌, ◌≢◌, ℕ, ◌+◌, ◌<◌, ◌≤◌, ◌⊎◌, inl, inr, Bool, true, false, List, [], ◌∷◌, length, get_or, refl, sym, ◌∙◌, ap, subst, arith}
use Rattle.std.specs.Prelude.{◌&&◌, ◌||◌, ◌==◌, slice_range}
use Rattle.std.proofs.lemmas.Bool.{cases_lt}
use Rattle.std.proofs.lemmas.Grind.{common_steps}
use Rattle.std.proofs.lemmas.List.Elements.{All-head, All-tail}
use Rattle.mx_text.specs.Bytes.{is_digit, begins_name, is_letter, digit_value}
use Rattle.mx_text.specs.Numbers.{IsNumber, AreDigits, value_from}
use Rattle.mx_lex.specs.Tokens.{Gap, none, blank, carriage_return, comment, IsToken, AreTokens, HasForm, IsOver, IsMeant, IsReadAs, punctuation_byte}
use Rattle.mx_lex.specs.declared.kinds.Punctuation.{Punctuation}
use Rattle.mx_lex.specs.declared.kinds.Punctuation.TheVariants.{Open, Close, Plus, Minus, Star, Comma, Colon}
use Rattle.mx_lex.specs.declared.kinds.TokenKind.{TokenKind}
use Rattle.mx_lex.specs.declared.kinds.TokenKind.TheVariants as kinds
use Rattle.mx_lex.specs.declared.kinds.Token.{Token}
use Rattle.mx_lex.proofs.Lexing.{form_lt}
use Rattle.mx_lex.proofs.Unique.{gap_same}

-- ---- no gap begins where a token does

pub over_by : (t : List ℕ) (a : ℕ) → get_or t a 0 ≢ 32 → get_or t a 0 ≢ 9 → get_or t a 0 ≢ 13 → get_or t a 0 ≢ 59 → IsOver t a
over_by t a space tab return semicolon b less none = absurd (omega (arith, less))
over_by t a space tab return semicolon b less (blank (inl p) g) = space p
over_by t a space tab return semicolon b less (blank (inr p) g) = tab p
over_by t a space tab return semicolon b less (carriage_return p q g) = return p
over_by t a space tab return semicolon b less (comment p lt q r g) = semicolon p

-- what begins a word, as a function of two bytes
abbrev pub begins : ℕ → ℕ → Bool
begins b c = begins_name b || (b == 46 && is_letter c)

pub no_word : (b c n : ℕ) → begins b c ≡ true → b ≡ n → begins n c ≡ true
no_word b c n h e = subst (λ (x : ℕ). begins x c ≡ true) e h

pub no_digit : (b n : ℕ) → is_digit b ≡ true → b ≡ n → is_digit n ≡ true
no_digit b n h e = subst (λ (x : ℕ). is_digit x ≡ true) e h

punctuation_over : (t : List ℕ) (a : ℕ) (m : Punctuation) → get_or t a 0 ≡ punctuation_byte m → IsOver t a
punctuation_over t a Open h = over_by t a (λ p. omega (arith, h, p)) (λ p. omega (arith, h, p)) (λ p. omega (arith, h, p)) (λ p. omega (arith, h, p))
punctuation_over t a Close h = over_by t a (λ p. omega (arith, h, p)) (λ p. omega (arith, h, p)) (λ p. omega (arith, h, p)) (λ p. omega (arith, h, p))
punctuation_over t a Plus h = over_by t a (λ p. omega (arith, h, p)) (λ p. omega (arith, h, p)) (λ p. omega (arith, h, p)) (λ p. omega (arith, h, p))
punctuation_over t a Minus h = over_by t a (λ p. omega (arith, h, p)) (λ p. omega (arith, h, p)) (λ p. omega (arith, h, p)) (λ p. omega (arith, h, p))
punctuation_over t a Star h = over_by t a (λ p. omega (arith, h, p)) (λ p. omega (arith, h, p)) (λ p. omega (arith, h, p)) (λ p. omega (arith, h, p))
punctuation_over t a Comma h = over_by t a (λ p. omega (arith, h, p)) (λ p. omega (arith, h, p)) (λ p. omega (arith, h, p)) (λ p. omega (arith, h, p))
punctuation_over t a Colon h = over_by t a (λ p. omega (arith, h, p)) (λ p. omega (arith, h, p)) (λ p. omega (arith, h, p)) (λ p. omega (arith, h, p))

form_over : (t : List ℕ) (k : TokenKind) (a b : ℕ) → HasForm t k a b → IsOver t a
form_over t kinds.LineFeed a b (h, e) = over_by t a (λ p. omega (arith, h, p)) (λ p. omega (arith, h, p)) (λ p. omega (arith, h, p)) (λ p. omega (arith, h, p))
form_over t (kinds.Punctuation m) a b (h, e) = punctuation_over t a m h
form_over t kinds.Word a b (h, l, r) = over_by t a (λ p. let f : false ≡ true = no_word (get_or t a 0) (get_or t (a + 1) 0) 32 h p in cc) (λ p. let f : false ≡ true = no_word (get_or t a 0) (get_or t (a + 1) 0) 9 h p in cc) (λ p. let f : false ≡ true = no_word (get_or t a 0) (get_or t (a + 1) 0) 13 h p in cc) (λ p. let f : false ≡ true = no_word (get_or t a 0) (get_or t (a + 1) 0) 59 h p in cc)
form_over t (kinds.Number n) a b (h, l, r) = over_by t a (λ p. let f : false ≡ true = no_digit (get_or t a 0) 32 h p in cc) (λ p. let f : false ≡ true = no_digit (get_or t a 0) 9 h p in cc) (λ p. let f : false ≡ true = no_digit (get_or t a 0) 13 h p in cc) (λ p. let f : false ≡ true = no_digit (get_or t a 0) 59 h p in cc)
form_over t kinds.Text a b (h, e, body, q, s) = over_by t a (λ p. omega (arith, h, p)) (λ p. omega (arith, h, p)) (λ p. omega (arith, h, p)) (λ p. omega (arith, h, p))

get_or_end : (t : List ℕ) → get_or t (length t) 0 ≡ 0
get_or_end [] = refl
get_or_end (b ∷ bs) = get_or_end bs

pub token_over : (t : List ℕ) (k : Token) → IsToken t k → IsOver t k.start
token_over t k x = form_over t k.kind k.start k.end x.form

pub end_over : (t : List ℕ) → IsOver t (length t)
end_over t =
    let e : get_or t (length t) 0 ≡ 0 = get_or_end t in
    over_by t (length t) (λ p. omega (arith, e, p)) (λ p. omega (arith, e, p)) (λ p. omega (arith, e, p)) (λ p. omega (arith, e, p))

-- ---- the first byte gives the kind

punctuation_same : (m n : Punctuation) → punctuation_byte m ≡ punctuation_byte n → m ≡ n
punctuation_same Open Open e = refl
punctuation_same Close Close e = refl
punctuation_same Plus Plus e = refl
punctuation_same Minus Minus e = refl
punctuation_same Star Star e = refl
punctuation_same Comma Comma e = refl
punctuation_same Colon Colon e = refl
punctuation_same m n e = absurd (omega (arith, e))

-- a number with the kind: which byte a punctuation is
abbrev AreAlike : TokenKind → TokenKind → Type 0
AreAlike kinds.LineFeed kinds.LineFeed = Unit {0}
AreAlike (kinds.Punctuation m) (kinds.Punctuation n) = m ≡ n
AreAlike kinds.Word kinds.Word = Unit {0}
AreAlike (kinds.Number m) (kinds.Number n) = Unit {0}
AreAlike kinds.Text kinds.Text = Unit {0}
AreAlike _ _ = ⊥

word_or_punctuation : (b c : ℕ) (m : Punctuation) → begins b c ≡ true → b ≡ punctuation_byte m → ⊥
word_or_punctuation b c Open h p = let f : false ≡ true = no_word b c (punctuation_byte Open) h p in cc
word_or_punctuation b c Close h p = let f : false ≡ true = no_word b c (punctuation_byte Close) h p in cc
word_or_punctuation b c Plus h p = let f : false ≡ true = no_word b c (punctuation_byte Plus) h p in cc
word_or_punctuation b c Minus h p = let f : false ≡ true = no_word b c (punctuation_byte Minus) h p in cc
word_or_punctuation b c Star h p = let f : false ≡ true = no_word b c (punctuation_byte Star) h p in cc
word_or_punctuation b c Comma h p = let f : false ≡ true = no_word b c (punctuation_byte Comma) h p in cc
word_or_punctuation b c Colon h p = let f : false ≡ true = no_word b c (punctuation_byte Colon) h p in cc

pub digit_or_punctuation : (b : ℕ) (m : Punctuation) → is_digit b ≡ true → b ≡ punctuation_byte m → ⊥
digit_or_punctuation b Open h p = let f : false ≡ true = no_digit b (punctuation_byte Open) h p in cc
digit_or_punctuation b Close h p = let f : false ≡ true = no_digit b (punctuation_byte Close) h p in cc
digit_or_punctuation b Plus h p = let f : false ≡ true = no_digit b (punctuation_byte Plus) h p in cc
digit_or_punctuation b Minus h p = let f : false ≡ true = no_digit b (punctuation_byte Minus) h p in cc
digit_or_punctuation b Star h p = let f : false ≡ true = no_digit b (punctuation_byte Star) h p in cc
digit_or_punctuation b Comma h p = let f : false ≡ true = no_digit b (punctuation_byte Comma) h p in cc
digit_or_punctuation b Colon h p = let f : false ≡ true = no_digit b (punctuation_byte Colon) h p in cc

pub punctuation_or : (b n : ℕ) (m : Punctuation) → (n ≡ 10) ⊎ (n ≡ 34) → b ≡ n → b ≡ punctuation_byte m → ⊥
punctuation_or b n Open (inl e) p q = omega (arith, e, p, q)
punctuation_or b n Open (inr e) p q = omega (arith, e, p, q)
punctuation_or b n Close (inl e) p q = omega (arith, e, p, q)
punctuation_or b n Close (inr e) p q = omega (arith, e, p, q)
punctuation_or b n Plus (inl e) p q = omega (arith, e, p, q)
punctuation_or b n Plus (inr e) p q = omega (arith, e, p, q)
punctuation_or b n Minus (inl e) p q = omega (arith, e, p, q)
punctuation_or b n Minus (inr e) p q = omega (arith, e, p, q)
punctuation_or b n Star (inl e) p q = omega (arith, e, p, q)
punctuation_or b n Star (inr e) p q = omega (arith, e, p, q)
punctuation_or b n Comma (inl e) p q = omega (arith, e, p, q)
punctuation_or b n Comma (inr e) p q = omega (arith, e, p, q)
punctuation_or b n Colon (inl e) p q = omega (arith, e, p, q)
punctuation_or b n Colon (inr e) p q = omega (arith, e, p, q)

pub word_or_digit : (b c : ℕ) → begins b c ≡ true → is_digit b ≡ true → ⊥
word_or_digit b c h p = grind (arith, common_steps, h, p)

pub kinds_alike : (t : List ℕ) (p q : TokenKind) (a b c : ℕ) → HasForm t p a b → HasForm t q a c → AreAlike p q
kinds_alike t kinds.LineFeed kinds.LineFeed a b c f g = tt
kinds_alike t (kinds.Punctuation m) (kinds.Punctuation n) a b c f g = punctuation_same m n (sym f.0 ∙ g.0)
kinds_alike t kinds.Word kinds.Word a b c f g = tt
kinds_alike t (kinds.Number m) (kinds.Number n) a b c f g = tt
kinds_alike t kinds.Text kinds.Text a b c f g = tt
kinds_alike t kinds.LineFeed (kinds.Punctuation n) a b c f g = punctuation_or (get_or t a 0) 10 n (inl refl) f.0 g.0
kinds_alike t (kinds.Punctuation n) kinds.LineFeed a b c f g = punctuation_or (get_or t a 0) 10 n (inl refl) g.0 f.0
kinds_alike t kinds.Text (kinds.Punctuation n) a b c f g = punctuation_or (get_or t a 0) 34 n (inr refl) f.0 g.0
kinds_alike t (kinds.Punctuation n) kinds.Text a b c f g = punctuation_or (get_or t a 0) 34 n (inr refl) g.0 f.0
kinds_alike t kinds.LineFeed kinds.Text a b c f g = absurd (omega (arith, f.0, g.0))
kinds_alike t kinds.Text kinds.LineFeed a b c f g = absurd (omega (arith, f.0, g.0))
kinds_alike t kinds.LineFeed kinds.Word a b c f g = let h : false ≡ true = no_word (get_or t a 0) (get_or t (a + 1) 0) 10 g.0 f.0 in cc
kinds_alike t kinds.Word kinds.LineFeed a b c f g = let h : false ≡ true = no_word (get_or t a 0) (get_or t (a + 1) 0) 10 f.0 g.0 in cc
kinds_alike t kinds.Text kinds.Word a b c f g = let h : false ≡ true = no_word (get_or t a 0) (get_or t (a + 1) 0) 34 g.0 f.0 in cc
kinds_alike t kinds.Word kinds.Text a b c f g = let h : false ≡ true = no_word (get_or t a 0) (get_or t (a + 1) 0) 34 f.0 g.0 in cc
kinds_alike t kinds.LineFeed (kinds.Number n) a b c f g = let h : false ≡ true = no_digit (get_or t a 0) 10 g.0 f.0 in cc
kinds_alike t (kinds.Number n) kinds.LineFeed a b c f g = let h : false ≡ true = no_digit (get_or t a 0) 10 f.0 g.0 in cc
kinds_alike t kinds.Text (kinds.Number n) a b c f g = let h : false ≡ true = no_digit (get_or t a 0) 34 g.0 f.0 in cc
kinds_alike t (kinds.Number n) kinds.Text a b c f g = let h : false ≡ true = no_digit (get_or t a 0) 34 f.0 g.0 in cc
kinds_alike t (kinds.Punctuation m) kinds.Word a b c f g = word_or_punctuation (get_or t a 0) (get_or t (a + 1) 0) m g.0 f.0
kinds_alike t kinds.Word (kinds.Punctuation m) a b c f g = word_or_punctuation (get_or t a 0) (get_or t (a + 1) 0) m f.0 g.0
kinds_alike t (kinds.Punctuation m) (kinds.Number n) a b c f g = digit_or_punctuation (get_or t a 0) m g.0 f.0
kinds_alike t (kinds.Number n) (kinds.Punctuation m) a b c f g = digit_or_punctuation (get_or t a 0) m f.0 g.0
kinds_alike t kinds.Word (kinds.Number n) a b c f g = word_or_digit (get_or t a 0) (get_or t (a + 1) 0) f.0 g.0
kinds_alike t (kinds.Number n) kinds.Word a b c f g = word_or_digit (get_or t a 0) (get_or t (a + 1) 0) g.0 f.0

-- ---- one number

not_both_bases : (bs digits : List ℕ) → bs ≡ 48 ∷ 120 ∷ digits → AreDigits 10 bs → ⊥
not_both_bases bs digits e all =
    let whole : AreDigits 10 (48 ∷ 120 ∷ digits) = subst (AreDigits 10) e all in
    let x : digit_value 120 < 10 = All-head (λ b. digit_value b < 10) 120 digits (All-tail (λ b. digit_value b < 10) 48 (120 ∷ digits) whole) in
    omega (arith, x)

one_number : (bs : List ℕ) (m n : ℕ) → IsNumber bs m → IsNumber bs n → m ≡ n
one_number bs m n (inl x) (inl y) = x.3 ∙ sym y.3
one_number bs m n (inl x) (inr (digits, e, y)) = absurd (not_both_bases bs digits e x.2)
one_number bs m n (inr (digits, e, x)) (inl y) = absurd (not_both_bases bs digits e y.2)
one_number bs m n (inr (digits, e, x)) (inr (digits', e', y)) =
    let same : digits ≡ digits' = cc in x.3 ∙ ap (value_from 16 0) same ∙ sym y.3

-- ---- one token

alike_form : (t : List ℕ) (p q : TokenKind) (a b : ℕ) → AreAlike p q → HasForm t q a b → HasForm t p a b
alike_form t kinds.LineFeed kinds.LineFeed a b e f = f
alike_form t (kinds.Punctuation m) (kinds.Punctuation n) a b e f = subst (λ (x : Punctuation). HasForm t (kinds.Punctuation x) a b) (sym e) f
alike_form t kinds.Word kinds.Word a b e f = f
alike_form t (kinds.Number m) (kinds.Number n) a b e f = f
alike_form t kinds.Text kinds.Text a b e f = f
alike_form t p q a b e f = absurd e

alike_turned : (p q : TokenKind) → AreAlike p q → AreAlike q p
alike_turned kinds.LineFeed kinds.LineFeed e = tt
alike_turned (kinds.Punctuation m) (kinds.Punctuation n) e = sym e
alike_turned kinds.Word kinds.Word e = tt
alike_turned (kinds.Number m) (kinds.Number n) e = tt
alike_turned kinds.Text kinds.Text e = tt
alike_turned p q e = absurd e

alike_meant : (bs : List ℕ) (p q : TokenKind) → AreAlike p q → IsMeant bs p → IsMeant bs q → p ≡ q
alike_meant bs kinds.LineFeed kinds.LineFeed e x y = refl
alike_meant bs (kinds.Punctuation m) (kinds.Punctuation n) e x y = ap kinds.Punctuation e
alike_meant bs kinds.Word kinds.Word e x y = refl
alike_meant bs (kinds.Number m) (kinds.Number n) e x y = ap kinds.Number (one_number bs m n x y)
alike_meant bs kinds.Text kinds.Text e x y = refl
alike_meant bs p q e x y = absurd e

abbrev token_of : TokenKind → ℕ → ℕ → Token
token_of p a b = record { kind = p; start = a; end = b }

pub token_same : (t : List ℕ) (j k : Token) → IsToken t j → IsToken t k → j.start ≡ k.start → j ≡ k
token_same t j k x y e = same
  where
    form : HasForm t k.kind j.start k.end
    form = subst (λ (a : ℕ). HasForm t k.kind a k.end) (sym e) y.form

    alike : AreAlike j.kind k.kind
    alike = kinds_alike t j.kind k.kind j.start j.end k.end x.form form

    not_later : j.end < k.end → ⊥
    not_later l = x.longest k.end l y.within (alike_form t j.kind k.kind j.start k.end alike form)

    not_sooner : k.end < j.end → ⊥
    not_sooner l = y.longest j.end l x.within (subst (λ (a : ℕ). HasForm t k.kind a j.end) e (alike_form t k.kind j.kind j.start j.end (alike_turned j.kind k.kind alike) x.form))

    end_by : (j.end < k.end) ⊎ (k.end ≤ j.end) → (k.end < j.end) ⊎ (j.end ≤ k.end) → j.end ≡ k.end
    end_by (inl l) m = absurd (not_later l)
    end_by (inr l) (inl m) = absurd (not_sooner m)
    end_by (inr l) (inr m) = omega arith

    end : j.end ≡ k.end
    end = end_by (cases_lt j.end k.end) (cases_lt k.end j.end)

    meant : IsMeant (slice_range t j.start j.end) k.kind
    meant = subst (λ (a : ℕ). IsMeant (slice_range t a j.end) k.kind) (sym e) (subst (λ (b : ℕ). IsMeant (slice_range t k.start b) k.kind) (sym end) y.meant)

    kind : j.kind ≡ k.kind
    kind = alike_meant (slice_range t j.start j.end) j.kind k.kind alike x.meant meant

    same : j ≡ k
    same = ap (λ (p : TokenKind). token_of p j.start j.end) kind ∙ ap (λ (a : ℕ). token_of k.kind a j.end) e ∙ ap (λ (b : ℕ). token_of k.kind k.start b) end

pub start_same : (t : List ℕ) (a : ℕ) (j k : Token) → Gap t a j.start → Gap t a k.start → IsToken t j → IsToken t k → j.start ≡ k.start
start_same t a j k g h x y =
    let lj : j.start < j.end = form_lt t j.kind j.start j.end x.form in
    let lk : k.start < k.end = form_lt t k.kind k.start k.end y.form in
    let wj : j.end ≤ length t = x.within in
    let wk : k.end ≤ length t = y.within in
    gap_same t a j.start k.start g h (omega arith) (omega arith) (token_over t j x) (token_over t k y)

pub no_token_left : (t : List ℕ) (a : ℕ) (j : Token) → Gap t a (length t) → Gap t a j.start → IsToken t j → ⊥
no_token_left t a j g h x =
    let l : j.start < j.end = form_lt t j.kind j.start j.end x.form in
    let w : j.end ≤ length t = x.within in
    let e : length t ≡ j.start = gap_same t a (length t) j.start g h (omega arith) (omega arith) (end_over t) (token_over t j x) in
    omega (arith, e, l, w)

tokens_same : (t : List ℕ) (a b c : ℕ) (ks js : List Token) → AreTokens t a ks b → Gap t b (length t) → AreTokens t a js c → Gap t c (length t) → ks ≡ js
tokens_same t a b c [] [] x g y h = refl
tokens_same t a b c [] (j ∷ js) x g (y, z, ys) h = absurd (no_token_left t a j (subst (λ (n : ℕ). Gap t n (length t)) (sym x) g) y z)
tokens_same t a b c (k ∷ ks) [] (x, z, xs) g y h = absurd (no_token_left t a k (subst (λ (n : ℕ). Gap t n (length t)) (sym y) h) x z)
tokens_same t a b c (k ∷ ks) (j ∷ js) (x, z, xs) g (y, w, ys) h =
    let same : k ≡ j = token_same t k j z w (start_same t a k j x y z w) in
    let ys' : AreTokens t k.end js c = subst (λ (i : Token). AreTokens t i.end js c) (sym same) ys in
    let rest : ks ≡ js = tokens_same t k.end b c ks js xs g ys' h in
    cc

pub one_reading : (t : List ℕ) (ks js : List Token) → IsReadAs t ks → IsReadAs t js → ks ≡ js
one_reading t ks js (b, x, g) (c, y, h) = tokens_same t 0 b c ks js x g y h
