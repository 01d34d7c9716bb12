-- A text has one fault at most.
use Rattle.std.proofs.Common.{◌≡◌, ◌≢◌, ℕ, ◌+◌, ◌<◌, ◌≤◌, inl, inr, true, false, List, [], ◌∷◌, length, get_or, refl, sym, ◌∙◌, ap, subst, arith}
use Rattle.mx_text.specs.Bytes.{is_digit}
use Rattle.mx_lex.specs.Bytes.{ends_at, is_escape}
use Rattle.mx_lex.specs.Tokens.{Body, ends, plain, escape, Gap, AreTokens, IsBrokenText, NoToken, BrokenAt, IsLexFault}
use Rattle.mx_lex.specs.declared.kinds.LexError.{LexError}
use Rattle.mx_lex.specs.declared.kinds.LexError.TheVariants.{BadByte, BadNumber, OpenText, NoMemory}
use Rattle.mx_lex.specs.declared.kinds.TokenKind.TheVariants as kinds
use Rattle.mx_lex.specs.declared.kinds.Token.{Token}
use Rattle.mx_lex.proofs.Unique.{gap_same}
use Rattle.mx_lex.proofs.Lexing.{form_lt}
use Rattle.mx_lex.proofs.Readings.{no_digit, token_over, token_same, start_same}
use Rattle.mx_lex.proofs.Faulty.{IsStuck, no_end_at, end_no_escape, broken_place, token_not_broken}

-- ---- a text is broken at one place

slash_goes_on : (t : List ℕ) (s : ℕ) → get_or t s 0 ≡ 92 → ends_at t s ≡ true → ⊥
slash_goes_on t s slash e = no_end_at t s 92 e slash (λ p. omega (arith, p)) (λ p. omega (arith, p)) (λ p. omega (arith, p))

plain_goes_on : (t : List ℕ) (s : ℕ) → ends_at t s ≡ false → get_or t s 0 ≢ 92 → IsStuck t s → ⊥
plain_goes_on t s on other (inl e) = cc
plain_goes_on t s on other (inr (p, e)) = other p

escape_goes_on : (t : List ℕ) (s : ℕ) → get_or t s 0 ≡ 92 → is_escape (get_or t (s + 1) 0) ≡ true → IsStuck t s → ⊥
escape_goes_on t s slash is (inl e) = slash_goes_on t s slash e
escape_goes_on t s slash is (inr (p, e)) = cc

stuck_same : (t : List ℕ) (s x y : ℕ) → Body t s x → IsStuck t x → Body t s y → IsStuck t y → x ≡ y
stuck_same t s x y ends j ends k = refl
stuck_same t s x y ends j (plain a b c more) k = absurd (plain_goes_on t s a c j)
stuck_same t s x y ends j (escape a b more) k = absurd (escape_goes_on t s a b j)
stuck_same t s x y (plain a b c less) j ends k = absurd (plain_goes_on t s a c k)
stuck_same t s x y (plain a b c less) j (plain a' b' c' more) k = stuck_same t (s + 1) x y less j more k
stuck_same t s x y (plain a b c less) j (escape a' b' more) k = absurd (c a')
stuck_same t s x y (escape a b less) j ends k = absurd (escape_goes_on t s a b k)
stuck_same t s x y (escape a b less) j (plain a' b' c' more) k = absurd (c' a)
stuck_same t s x y (escape a b less) j (escape a' b' more) k = stuck_same t (s + 2) x y less j more k

-- an escape that is none, and a line that ends
bad_or_open : (t : List ℕ) (s x y : ℕ) → IsBrokenText t s (BadByte x) → IsBrokenText t s (OpenText y) → ⊥
bad_or_open t s x y (body, slash, on, wrong) (over, inl other) =
    let same : x ≡ y = stuck_same t s x y body (inr (slash, wrong)) other (inl over) in
    slash_goes_on t x slash (subst (λ (n : ℕ). ends_at t n ≡ true) (sym same) over)
bad_or_open t s x y (body, slash, on, wrong) (over, inr (b, other, slash', e)) =
    let over' : ends_at t (b + 1) ≡ true = subst (λ (n : ℕ). ends_at t n ≡ true) e over in
    let same : b ≡ x = stuck_same t s b x other (inr (slash', end_no_escape t (b + 1) over')) body (inr (slash, wrong)) in
    let over'' : ends_at t (x + 1) ≡ true = subst (λ (n : ℕ). ends_at t (n + 1) ≡ true) same over' in
    cc

broken_same : (t : List ℕ) (s : ℕ) (e f : LexError) → IsBrokenText t s e → IsBrokenText t s f → e ≡ f
broken_same t s (BadByte x) (BadByte y) (body, slash, on, wrong) (other, slash', on', wrong') = ap BadByte (stuck_same t s x y body (inr (slash, wrong)) other (inr (slash', wrong')))
broken_same t s (BadByte x) (OpenText y) h k = absurd (bad_or_open t s x y h k)
broken_same t s (OpenText x) (BadByte y) h k = absurd (bad_or_open t s y x k h)
broken_same t s (OpenText x) (OpenText y) (over, inl body) (over', inl other) = ap OpenText (stuck_same t s x y body (inl over) other (inl over'))
broken_same t s (OpenText x) (OpenText y) (over, inl body) (over', inr (b, other, slash, e)) =
    let end : ends_at t (b + 1) ≡ true = subst (λ (n : ℕ). ends_at t n ≡ true) e over' in
    let same : x ≡ b = stuck_same t s x b body (inl over) other (inr (slash, end_no_escape t (b + 1) end)) in
    absurd (slash_goes_on t b slash (subst (λ (n : ℕ). ends_at t n ≡ true) same over))
broken_same t s (OpenText x) (OpenText y) (over, inr (b, body, slash, e)) (over', inl other) =
    let end : ends_at t (b + 1) ≡ true = subst (λ (n : ℕ). ends_at t n ≡ true) e over in
    let same : y ≡ b = stuck_same t s y b other (inl over') body (inr (slash, end_no_escape t (b + 1) end)) in
    absurd (slash_goes_on t b slash (subst (λ (n : ℕ). ends_at t n ≡ true) same over'))
broken_same t s (OpenText x) (OpenText y) (over, inr (b, body, slash, e)) (over', inr (c, other, slash', e')) =
    let end : ends_at t (b + 1) ≡ true = subst (λ (n : ℕ). ends_at t n ≡ true) e over in
    let end' : ends_at t (c + 1) ≡ true = subst (λ (n : ℕ). ends_at t n ≡ true) e' over' in
    let same : b ≡ c = stuck_same t s b c body (inr (slash, end_no_escape t (b + 1) end)) other (inr (slash', end_no_escape t (c + 1) end')) in
    ap OpenText (e ∙ ap (λ (n : ℕ). n + 1) same ∙ sym e')
broken_same t s (BadNumber x) f h k = absurd h
broken_same t s NoMemory f h k = absurd h
broken_same t s e (BadNumber y) h k = absurd k
broken_same t s e NoMemory h k = absurd k

-- ---- what begins at a place is broken in one way

digit_begins : (t : List ℕ) (a : ℕ) → is_digit (get_or t a 0) ≡ true → NoToken t a → ⊥
digit_begins t a digit nothing = nothing (record { kind = kinds.Number 0; start = a; end = a + 1 }) refl (digit, omega arith, λ k p q. absurd (omega (arith, p, q)))

digit_quote : (t : List ℕ) (a : ℕ) → is_digit (get_or t a 0) ≡ true → get_or t a 0 ≡ 34 → ⊥
digit_quote t a digit quote = let f : false ≡ true = no_digit (get_or t a 0) 34 digit quote in cc

at_same : (t : List ℕ) (a : ℕ) (e f : LexError) → BrokenAt t a e → BrokenAt t a f → e ≡ f
at_same t a (BadByte x) (BadByte y) (inl (e, less, over, nothing, quote)) (inl (e', less', over', nothing', quote')) = ap BadByte (e ∙ sym e')
at_same t a (BadByte x) (BadByte y) (inl (e, less, over, nothing, other)) (inr (quote, broken)) = absurd (other quote)
at_same t a (BadByte x) (BadByte y) (inr (quote, broken)) (inl (e, less, over, nothing, other)) = absurd (other quote)
at_same t a (BadByte x) (BadByte y) (inr (quote, broken)) (inr (quote', broken')) = broken_same t (a + 1) (BadByte x) (BadByte y) broken broken'
at_same t a (BadByte x) (BadNumber y) (inl (e, less, over, nothing, other)) (e', digit, run) = absurd (digit_begins t a digit nothing)
at_same t a (BadByte x) (BadNumber y) (inr (quote, broken)) (e', digit, run) = absurd (digit_quote t a digit quote)
at_same t a (BadByte x) (OpenText y) (inl (e, less, over, nothing, other)) (quote, broken) = absurd (other quote)
at_same t a (BadByte x) (OpenText y) (inr (quote, broken)) (quote', broken') = broken_same t (a + 1) (BadByte x) (OpenText y) broken broken'
at_same t a (BadNumber x) (BadByte y) (e, digit, run) (inl (e', less, over, nothing, other)) = absurd (digit_begins t a digit nothing)
at_same t a (BadNumber x) (BadByte y) (e, digit, run) (inr (quote, broken)) = absurd (digit_quote t a digit quote)
at_same t a (BadNumber x) (BadNumber y) (e, digit, run) (e', digit', run') = ap BadNumber (e ∙ sym e')
at_same t a (BadNumber x) (OpenText y) (e, digit, run) (quote, broken) = absurd (digit_quote t a digit quote)
at_same t a (OpenText x) (BadByte y) (quote, broken) (inl (e, less, over, nothing, other)) = absurd (other quote)
at_same t a (OpenText x) (BadByte y) (quote, broken) (inr (quote', broken')) = broken_same t (a + 1) (OpenText x) (BadByte y) broken broken'
at_same t a (OpenText x) (BadNumber y) (quote, broken) (e, digit, run) = absurd (digit_quote t a digit quote)
at_same t a (OpenText x) (OpenText y) (quote, broken) (quote', broken') = broken_same t (a + 1) (OpenText x) (OpenText y) broken broken'
at_same t a NoMemory f h k = absurd h
at_same t a e NoMemory h k = absurd k

-- ---- before it are the same tokens

-- a token where something is broken
token_or_broken : (t : List ℕ) (a d : ℕ) (j : Token) (js : List Token) (c : ℕ) (e : LexError) → Gap t a d → BrokenAt t d e → AreTokens t a (j ∷ js) c → ⊥
token_or_broken t a d j js c e g broken (y, w, ys) =
    let place = broken_place t d e broken in
    let less : d < length t = place.1 in
    let l : j.start < j.end = form_lt t j.kind j.start j.end w.form in
    let inside : j.end ≤ length t = w.within in
    let same : d ≡ j.start = gap_same t a d j.start g y (omega arith) (omega arith) place.0 (token_over t j w) in
    token_not_broken t j e w (subst (λ (n : ℕ). BrokenAt t n e) same broken)

faults_same : (t : List ℕ) (a b c d i : ℕ) (ks js : List Token) (e f : LexError) → AreTokens t a ks b → Gap t b d → BrokenAt t d e → AreTokens t a js c → Gap t c i → BrokenAt t i f → e ≡ f
faults_same t a b c d i [] [] e f x g broken y h broken' =
    let place = broken_place t d e broken in
    let place' = broken_place t i f broken' in
    let less : d < length t = place.1 in
    let less' : i < length t = place'.1 in
    let g' : Gap t a d = subst (λ (n : ℕ). Gap t n d) (sym x) g in
    let h' : Gap t a i = subst (λ (n : ℕ). Gap t n i) (sym y) h in
    let same : d ≡ i = gap_same t a d i g' h' (omega arith) (omega arith) place.0 place'.0 in
    at_same t i e f (subst (λ (n : ℕ). BrokenAt t n e) same broken) broken'
faults_same t a b c d i [] (j ∷ js) e f x g broken y h broken' = absurd (token_or_broken t a d j js c e (subst (λ (n : ℕ). Gap t n d) (sym x) g) broken y)
faults_same t a b c d i (k ∷ ks) [] e f x g broken y h broken' = absurd (token_or_broken t a i k ks b f (subst (λ (n : ℕ). Gap t n i) (sym y) h) broken' x)
faults_same t a b c d i (k ∷ ks) (j ∷ js) e f (x, z, xs) g broken (y, w, ys) h broken' =
    let same : k ≡ j = token_same t k j z w (start_same t a k j x y z w) in
    let ys' : AreTokens t k.end js c = subst (λ (n : Token). AreTokens t n.end js c) (sym same) ys in
    faults_same t k.end b c d i ks js e f xs g broken ys' h broken'

pub one_fault : (t : List ℕ) (e f : LexError) → IsLexFault t e → IsLexFault t f → e ≡ f
one_fault t e f (ks, b, d, x, g, broken) (js, c, i, y, h, broken') = faults_same t 0 b c d i ks js e f x g broken y h broken'
