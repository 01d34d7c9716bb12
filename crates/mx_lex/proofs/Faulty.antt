-- A text that has a reading has no fault.
use Rattle.std.proofs.Common.{◌≡◌, ◌≢◌, ℕ, ◌+◌, ◌<◌, ◌≤◌, ◌⊎◌, inl, inr, true, false, List, [], ◌∷◌, length, get_or, refl, sym, ◌∙◌, ap, subst, arith, IsTrue}
use Rattle.std.specs.Prelude.{◌==◌, slice_range}
use Rattle.std.proofs.lemmas.Bool.{cases_lt}
use Rattle.std.proofs.lemmas.Bool.Decides.{eqb_tells}
use Rattle.std.proofs.lemmas.Grind.{common_steps}
use Rattle.std.proofs.lemmas.List.{get_or_past}
use Rattle.mx_text.specs.Bytes.{is_digit, is_word_byte}
use Rattle.mx_text.specs.Numbers.{IsNumber}
use Rattle.mx_lex.specs.Bytes.{AllFrom, ends_at, is_escape}
use Rattle.mx_lex.specs.Tokens.{Body, ends, plain, escape, Gap, IsToken, AreTokens, HasForm, IsOver, IsBrokenText, BrokenAt, IsReadAs, IsLexFault, IsMeant}
use Rattle.mx_lex.specs.declared.kinds.LexError.{LexError}
use Rattle.mx_lex.specs.declared.kinds.LexError.TheVariants.{BadByte, BadNumber, OpenText, NoMemory}
use Rattle.mx_lex.specs.declared.kinds.TokenKind.{TokenKind}
use Rattle.mx_lex.specs.declared.kinds.TokenKind.TheVariants as kinds
use Rattle.mx_lex.specs.declared.kinds.Token.{Token}
use Rattle.mx_lex.proofs.Unique.{gap_same}
use Rattle.mx_lex.proofs.Lexing.{form_lt}
use Rattle.mx_lex.proofs.Readings.{over_by, no_word, no_digit, punctuation_or, digit_or_punctuation, word_or_digit, token_over, end_over, token_same, start_same, no_token_left}

-- ---- what ends a line is neither a quote, a backslash nor an escape

end_byte : (t : List ℕ) (i : ℕ) → ends_at t i ≡ true → (get_or t i 0 ≡ 0) ⊎ ((get_or t i 0 ≡ 10) ⊎ (get_or t i 0 ≡ 13))
end_byte t i h = by_length (eqb_tells i (length t))
  where
    by_return : (((get_or t i 0 == 13) ≡ true) × (get_or t i 0 ≡ 13)) ⊎ (((get_or t i 0 == 13) ≡ false) × (get_or t i 0 ≢ 13))
        → (i == length t) ≡ false → (get_or t i 0 == 10) ≡ false → (get_or t i 0 ≡ 0) ⊎ ((get_or t i 0 ≡ 10) ⊎ (get_or t i 0 ≡ 13))
    by_return (inl p) no_end no_feed = inr (inr p.1)
    by_return (inr p) no_end no_feed = let f : false ≡ true = rw (no_end, no_feed, p.0) at h in cc

    by_feed : (((get_or t i 0 == 10) ≡ true) × (get_or t i 0 ≡ 10)) ⊎ (((get_or t i 0 == 10) ≡ false) × (get_or t i 0 ≢ 10))
        → (i == length t) ≡ false → (get_or t i 0 ≡ 0) ⊎ ((get_or t i 0 ≡ 10) ⊎ (get_or t i 0 ≡ 13))
    by_feed (inl p) no_end = inr (inl p.1)
    by_feed (inr p) no_end = by_return (eqb_tells (get_or t i 0) 13) no_end p.0

    by_length : (((i == length t) ≡ true) × (i ≡ length t)) ⊎ (((i == length t) ≡ false) × (i ≢ length t))
        → (get_or t i 0 ≡ 0) ⊎ ((get_or t i 0 ≡ 10) ⊎ (get_or t i 0 ≡ 13))
    by_length (inl p) = inl (get_or_past t i 0 (omega (arith, p.1)))
    by_length (inr p) = by_feed (eqb_tells (get_or t i 0) 10) p.0

pub no_end_at : (t : List ℕ) (i n : ℕ) → ends_at t i ≡ true → get_or t i 0 ≡ n → n ≢ 0 → n ≢ 10 → n ≢ 13 → ⊥
no_end_at t i n h e a b c = by_case (end_byte t i h)
  where
    by_case : (get_or t i 0 ≡ 0) ⊎ ((get_or t i 0 ≡ 10) ⊎ (get_or t i 0 ≡ 13)) → ⊥
    by_case (inl p) = a (sym e ∙ p)
    by_case (inr (inl p)) = b (sym e ∙ p)
    by_case (inr (inr p)) = c (sym e ∙ p)

pub end_no_escape : (t : List ℕ) (i : ℕ) → ends_at t i ≡ true → is_escape (get_or t i 0) ≡ false
end_no_escape t i h = by_case (end_byte t i h)
  where
    by_case : (get_or t i 0 ≡ 0) ⊎ ((get_or t i 0 ≡ 10) ⊎ (get_or t i 0 ≡ 13)) → is_escape (get_or t i 0) ≡ false
    by_case (inl p) = ap is_escape p
    by_case (inr (inl p)) = ap is_escape p
    by_case (inr (inr p)) = ap is_escape p

-- ---- a text that ends isn't broken

-- nothing goes on here but a quote: the line ends, or an escape is none
abbrev pub IsStuck : List ℕ → ℕ → Type 0
IsStuck t x = (ends_at t x ≡ true) ⊎ ((get_or t x 0 ≡ 92) × (is_escape (get_or t (x + 1) 0) ≡ false))

body_stuck : (t : List ℕ) (s q x : ℕ) → Body t s q → get_or t q 0 ≡ 34 → Body t s x → IsStuck t x → ⊥
body_stuck t s q x ends quote ends (inl e) = no_end_at t q 34 e quote (λ p. omega (arith, p)) (λ p. omega (arith, p)) (λ p. omega (arith, p))
body_stuck t s q x ends quote ends (inr (p, e)) = omega (arith, p, quote)
body_stuck t s q x ends quote (plain a b c more) k = b quote
body_stuck t s q x ends quote (escape a b more) k = omega (arith, a, quote)
body_stuck t s q x (plain a b c less) quote ends (inl e) = cc
body_stuck t s q x (plain a b c less) quote ends (inr (p, e)) = c p
body_stuck t s q x (plain a b c less) quote (plain a' b' c' more) k = body_stuck t (s + 1) q x less quote more k
body_stuck t s q x (plain a b c less) quote (escape a' b' more) k = c a'
body_stuck t s q x (escape a b less) quote ends (inl e) = no_end_at t s 92 e a (λ p. omega (arith, p)) (λ p. omega (arith, p)) (λ p. omega (arith, p))
body_stuck t s q x (escape a b less) quote ends (inr (p, e)) = cc
body_stuck t s q x (escape a b less) quote (plain a' b' c' more) k = c' a
body_stuck t s q x (escape a b less) quote (escape a' b' more) k = body_stuck t (s + 2) q x less quote more k

text_not_broken : (t : List ℕ) (s q : ℕ) (e : LexError) → Body t s q → get_or t q 0 ≡ 34 → IsBrokenText t s e → ⊥
text_not_broken t s q (BadByte x) body quote (other, slash, on, wrong) = body_stuck t s q x body quote other (inr (slash, wrong))
text_not_broken t s q (OpenText x) body quote (over, inl other) = body_stuck t s q x body quote other (inl over)
text_not_broken t s q (OpenText x) body quote (over, inr (b, other, slash, e)) =
    body_stuck t s q b body quote other (inr (slash, end_no_escape t (b + 1) (subst (λ (n : ℕ). ends_at t n ≡ true) e over)))
text_not_broken t s q (BadNumber x) body quote h = h
text_not_broken t s q NoMemory body quote h = h

-- ---- a token isn't broken

quoted_not_broken : (t : List ℕ) (k : Token) (e : LexError) → IsToken t k → get_or t k.start 0 ≡ 34 → IsBrokenText t (k.start + 1) e → ⊥
quoted_not_broken t k e x quote broken = by_kind k.kind k.end x.form
  where
    by_kind : (kind : TokenKind) (b : ℕ) → HasForm t kind k.start b → ⊥
    by_kind kinds.LineFeed b f = omega (arith, f.0, quote)
    by_kind (kinds.Punctuation m) b f = punctuation_or (get_or t k.start 0) 34 m (inr refl) quote f.0
    by_kind kinds.Word b f = let h : false ≡ true = no_word (get_or t k.start 0) (get_or t (k.start + 1) 0) 34 f.0 quote in cc
    by_kind (kinds.Number n) b f = let h : false ≡ true = no_digit (get_or t k.start 0) 34 f.0 quote in cc
    by_kind kinds.Text b (q, end, body, last, s) = text_not_broken t (k.start + 1) end e body last broken

pub digit_is_word : (b : ℕ) → is_digit b ≡ true → is_word_byte b ≡ true
digit_is_word b h = grind (arith, common_steps, h)

-- a number's run is the run that is no number
run_same : (t : List ℕ) (k : Token) (n b : ℕ) → k.end ≤ length t → HasForm t (kinds.Number n) k.start k.end → ((c : ℕ) → k.end < c → c ≤ length t → HasForm t (kinds.Number n) k.start c → ⊥)
    → k.start < b → AllFrom is_word_byte t k.start b → (b < length t → is_word_byte (get_or t b 0) ≡ false) → b ≤ length t → b ≡ k.end
run_same t k n b inside (digit, less, run) longest some whole over within = by_case (cases_lt b k.end) (cases_lt k.end b)
  where
    too_short : b < k.end → ⊥
    too_short l =
        let yes : IsTrue (is_word_byte (get_or t b 0)) = run b (omega arith) l in
        let other : is_word_byte (get_or t b 0) ≡ false = over (omega arith) in
        let f : false ≡ true = sym other ∙ yes in cc

    by_case : (b < k.end) ⊎ (k.end ≤ b) → (k.end < b) ⊎ (b ≤ k.end) → b ≡ k.end
    by_case (inl l) m = absurd (too_short l)
    by_case (inr l) (inl m) = absurd (longest b m within (digit, omega arith, λ c p q. whole c (omega (arith, p)) q))
    by_case (inr l) (inr m) = omega arith

pub token_not_broken : (t : List ℕ) (k : Token) (e : LexError) → IsToken t k → BrokenAt t k.start e → ⊥
token_not_broken t k (BadByte a) x (inl (e, less, over, nothing, quote)) = nothing k refl x.form
token_not_broken t k (BadByte a) x (inr (quote, broken)) = quoted_not_broken t k (BadByte a) x quote broken
token_not_broken t k (OpenText a) x (quote, broken) = quoted_not_broken t k (OpenText a) x quote broken
token_not_broken t k (BadNumber a) x (e, digit, (b, some, run, over, within, wrong)) = by_kind k.kind x.form x.longest x.meant
  where
    by_kind : (kind : TokenKind) → HasForm t kind k.start k.end → ((c : ℕ) → k.end < c → c ≤ length t → HasForm t kind k.start c → ⊥) → IsMeant (slice_range t k.start k.end) kind → ⊥
    by_kind kinds.LineFeed f longest meant = let h : false ≡ true = no_digit (get_or t k.start 0) 10 digit f.0 in cc
    by_kind (kinds.Punctuation m) f longest meant = digit_or_punctuation (get_or t k.start 0) m digit f.0
    by_kind kinds.Word f longest meant = word_or_digit (get_or t k.start 0) (get_or t (k.start + 1) 0) f.0 digit
    by_kind kinds.Text f longest meant = let h : false ≡ true = no_digit (get_or t k.start 0) 34 digit f.0 in cc
    by_kind (kinds.Number n) f longest meant =
        let same : b ≡ k.end = run_same t k n b x.within f longest some run over within in
        wrong n (subst (λ (c : ℕ). IsNumber (slice_range t k.start c) n) (sym same) meant)
token_not_broken t k NoMemory x broken = broken

-- ---- a reading and a fault

pub some_byte : (t : List ℕ) (a n : ℕ) → get_or t a 0 ≡ n → n ≢ 0 → a < length t
some_byte t a n e h = by_case (cases_lt a (length t))
  where
    by_case : (a < length t) ⊎ (length t ≤ a) → a < length t
    by_case (inl l) = l
    by_case (inr l) = absurd (h (sym e ∙ get_or_past t a 0 l))

digit_byte : (t : List ℕ) (a : ℕ) → is_digit (get_or t a 0) ≡ true → a < length t
digit_byte t a h = by_case (cases_lt a (length t))
  where
    by_case : (a < length t) ⊎ (length t ≤ a) → a < length t
    by_case (inl l) = l
    by_case (inr l) = let f : false ≡ true = no_digit (get_or t a 0) 0 h (get_or_past t a 0 l) in cc

quote_place : (t : List ℕ) (a : ℕ) → get_or t a 0 ≡ 34 → IsOver t a × (a < length t)
quote_place t a h = (
  over_by t a (λ p. omega (arith, h, p)) (λ p. omega (arith, h, p)) (λ p. omega (arith, h, p)) (λ p. omega (arith, h, p)),
  some_byte t a 34 h (λ p. omega (arith, p)),
)

pub broken_place : (t : List ℕ) (a : ℕ) (e : LexError) → BrokenAt t a e → IsOver t a × (a < length t)
broken_place t a (BadByte b) (inl (e, less, over, nothing, quote)) = (over, less)
broken_place t a (BadByte b) (inr (quote, broken)) = quote_place t a quote
broken_place t a (OpenText b) (quote, broken) = quote_place t a quote
broken_place t a (BadNumber b) (e, digit, rest) = (
  over_by t a (λ p. let f : false ≡ true = no_digit (get_or t a 0) 32 digit p in cc) (λ p. let f : false ≡ true = no_digit (get_or t a 0) 9 digit p in cc)
      (λ p. let f : false ≡ true = no_digit (get_or t a 0) 13 digit p in cc) (λ p. let f : false ≡ true = no_digit (get_or t a 0) 59 digit p in cc),
  digit_byte t a digit,
)
broken_place t a NoMemory broken = absurd broken

read_or_broken : (t : List ℕ) (a b c d : ℕ) (ks js : List Token) (e : LexError) → AreTokens t a ks b → Gap t b (length t) → AreTokens t a js c → Gap t c d → BrokenAt t d e → ⊥
read_or_broken t a b c d [] [] e x g y h broken =
    let place = broken_place t d e broken in
    let g' : Gap t a (length t) = subst (λ (n : ℕ). Gap t n (length t)) (sym x) g in
    let h' : Gap t a d = subst (λ (n : ℕ). Gap t n d) (sym y) h in
    let less : d < length t = place.1 in
    let same : length t ≡ d = gap_same t a (length t) d g' h' (omega arith) (omega arith) (end_over t) place.0 in
    omega (arith, same, less)
read_or_broken t a b c d [] (j ∷ js) e x g (y, w, ys) h broken = no_token_left t a j (subst (λ (n : ℕ). Gap t n (length t)) (sym x) g) y w
read_or_broken t a b c d (k ∷ ks) [] e (x, z, xs) g y h broken =
    let place = broken_place t d e broken in
    let h' : Gap t a d = subst (λ (n : ℕ). Gap t n d) (sym y) h in
    let less : d < length t = place.1 in
    let l : k.start < k.end = form_lt t k.kind k.start k.end z.form in
    let w : k.end ≤ length t = z.within in
    let same : d ≡ k.start = gap_same t a d k.start h' x (omega arith) (omega arith) place.0 (token_over t k z) in
    token_not_broken t k e z (subst (λ (n : ℕ). BrokenAt t n e) same broken)
read_or_broken t a b c d (k ∷ ks) (j ∷ js) e (x, z, xs) g (y, w, ys) h broken =
    let same : k ≡ j = token_same t k j z w (start_same t a k j x y z w) in
    let ys' : AreTokens t k.end js c = subst (λ (i : Token). AreTokens t i.end js c) (sym same) ys in
    read_or_broken t k.end b c d ks js e xs g ys' h broken

pub never_both : (t : List ℕ) (ks : List Token) (e : LexError) → IsReadAs t ks → IsLexFault t e → ⊥
never_both t ks e (b, x, g) (js, c, d, y, h, broken) = read_or_broken t 0 b c d ks js e x g y h broken
