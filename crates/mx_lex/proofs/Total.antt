-- A text that has no reading has a fault.
use Rattle.std.proofs.Common.{◌≡◌, ◌≢◌, ℕ, zero, suc, ◌+◌, ◌<◌, ◌≤◌, ◌⊎◌, inl, inr, Bool, true, false, List, [], ◌∷◌, ◌++◌, length, get_or, refl, sym, ◌∙◌, subst, arith, IsTrue}
use Rattle.std.specs.Prelude.{◌==◌, slice_range}
use Rattle.std.proofs.lemmas.Bool.{cases_lt}
use Rattle.std.proofs.lemmas.Bool.Decides.{eqb_tells}
use Rattle.mx_text.specs.Bytes.{is_word_byte, is_digit}
use Rattle.mx_text.specs.Numbers.{IsNumber}
use Rattle.mx_lex.specs.Bytes.{AllFrom, begins_word, ends_at, is_escape}
use Rattle.mx_lex.specs.Tokens.{Body, ends, plain, escape, Gap, none, blank, carriage_return, comment, IsToken, AreTokens, HasForm, IsOver, punctuation_byte, IsBrokenText, BrokenAt, IsMeant, IsReadAs, IsLexFault}
use Rattle.mx_lex.specs.declared.kinds.LexError.{LexError}
use Rattle.mx_lex.specs.declared.kinds.LexError.TheVariants.{BadByte, BadNumber, OpenText, NoMemory}
use Rattle.mx_lex.specs.declared.kinds.Punctuation.{Punctuation}
use Rattle.mx_lex.specs.declared.kinds.TokenKind.{TokenKind}
use Rattle.mx_lex.specs.declared.kinds.TokenKind.TheVariants as kinds
use Rattle.mx_lex.specs.declared.kinds.Token.{Token}
use Rattle.mx_lex.proofs.Lexing.{run_over, body_over, no_form, AreTokens-snoc, form_lt, gap_le}
use Rattle.mx_lex.proofs.Readings.{end_over}
use Rattle.mx_lex.proofs.Faulty.{some_byte, digit_is_word}

-- where anything that is shown absurd may rest on a case and its contrary
pub by_cases : (A : Type 0) → ((A ⊎ (A → ⊥)) → ⊥) → ⊥
by_cases A k = k (inr (λ a. k (inl a)))

pub is_or_not : (b : Bool) → (b ≡ true) ⊎ (b ≡ false)
is_or_not true = inl refl
is_or_not false = inr refl

-- ---- gaps

gap_on : (t : List ℕ) (a b c : ℕ) → Gap t a b → Gap t b c → Gap t a c
gap_on t a b c none y = y
gap_on t a b c (blank p x) y = blank p (gap_on t (a + 1) b c x y)
gap_on t a b c (carriage_return p q x) y = carriage_return p q (gap_on t (a + 1) b c x y)
gap_on t a b c (comment {c = d} p lt q r x) y = comment p lt q r (gap_on t d b c x y)

feed_byte : (t : List ℕ) (c : ℕ) → (c ≡ length t) ⊎ (get_or t c 0 ≡ 10) → c ≤ length t
feed_byte t c (inl e) = omega arith
feed_byte t c (inr e) = let l : c < length t = some_byte t c 10 e (λ p. omega (arith, p)) in omega arith

gap_within : (t : List ℕ) (a b : ℕ) → a ≤ length t → Gap t a b → b ≤ length t
gap_within t a b le none = le
gap_within t a b le (blank (inl p) x) = let l : a < length t = some_byte t a 32 p (λ q. omega (arith, q)) in gap_within t (a + 1) b (omega arith) x
gap_within t a b le (blank (inr p) x) = let l : a < length t = some_byte t a 9 p (λ q. omega (arith, q)) in gap_within t (a + 1) b (omega arith) x
gap_within t a b le (carriage_return p q x) = let l : a < length t = some_byte t a 13 p (λ r. omega (arith, r)) in gap_within t (a + 1) b (omega arith) x
gap_within t a b le (comment {c = c} p lt q r x) = gap_within t c b (feed_byte t c r) x

-- a gap goes on as far as one does
gap_out : (t : List ℕ) (n a : ℕ) → length t ≤ a + n → a ≤ length t → ((g : ℕ) → Gap t a g → IsOver t g → g ≤ length t → ⊥) → ⊥
gap_out t zero a fuel le k = let e : length t ≡ a = omega arith in k a none (subst (λ (i : ℕ). IsOver t i) e (end_over t)) le
gap_out t (suc n) a fuel le k = by_cases ((b : ℕ) × (a < b) × Gap t a b) (go (λ b f w h. gap_out t n b f w h))
  where
    go : ((b : ℕ) → length t ≤ b + n → b ≤ length t → ((g : ℕ) → Gap t b g → IsOver t g → g ≤ length t → ⊥) → ⊥)
        → (((b : ℕ) × (a < b) × Gap t a b) ⊎ (((b : ℕ) × (a < b) × Gap t a b) → ⊥)) → ⊥
    go again (inr never) = k a none (λ b lt g. never (b, lt, g)) le
    go again (inl (b, lt, g)) = let w : b ≤ length t = gap_within t a b le g in again b (omega arith) w (λ c h over within. k c (gap_on t a b c g h) over within)

-- ---- runs

run_out : (t : List ℕ) (n s a : ℕ) → length t ≤ a + n → s ≤ a → a ≤ length t → AllFrom is_word_byte t s a
    → (b : ℕ) × (s ≤ b) × (b ≤ length t) × AllFrom is_word_byte t s b × (b < length t → is_word_byte (get_or t b 0) ≡ false)
run_out t zero s a fuel from le run = (a, from, le, run, λ l. absurd (omega arith))
run_out t (suc n) s a fuel from le run = by_end (λ f g h r. run_out t n s (a + 1) f g h r) (cases_lt a (length t)) (is_or_not (is_word_byte (get_or t a 0)))
  where
    by_end : (length t ≤ a + 1 + n → s ≤ a + 1 → a + 1 ≤ length t → AllFrom is_word_byte t s (a + 1)
        → (b : ℕ) × (s ≤ b) × (b ≤ length t) × AllFrom is_word_byte t s b × (b < length t → is_word_byte (get_or t b 0) ≡ false))
        → (a < length t) ⊎ (length t ≤ a) → (is_word_byte (get_or t a 0) ≡ true) ⊎ (is_word_byte (get_or t a 0) ≡ false)
        → (b : ℕ) × (s ≤ b) × (b ≤ length t) × AllFrom is_word_byte t s b × (b < length t → is_word_byte (get_or t b 0) ≡ false)
    by_end again (inr l) w = (a, from, le, run, λ m. absurd (omega arith))
    by_end again (inl l) (inr w) = (a, from, le, run, λ m. w)
    by_end again (inl l) (inl w) = again (omega arith) (omega arith) (omega arith) more
      where
        more : AllFrom is_word_byte t s (a + 1)
        more i p q = by_last (cases_lt i a)
          where
            by_last : (i < a) ⊎ (a ≤ i) → IsTrue (is_word_byte (get_or t i 0))
            by_last (inl r) = run i p r
            by_last (inr r) = let e : a ≡ i = omega arith in subst (λ (j : ℕ). is_word_byte (get_or t j 0) ≡ true) e w

-- ---- texts

ends_there : (t : List ℕ) (x : ℕ) → (x == length t) ≡ true → ends_at t x ≡ true
ends_there t x h = rw h refl

inside : (t : List ℕ) (x : ℕ) → x ≤ length t → ends_at t x ≡ false → x < length t
inside t x le h = by_case (eqb_tells x (length t))
  where
    by_case : (((x == length t) ≡ true) × (x ≡ length t)) ⊎ (((x == length t) ≡ false) × (x ≢ length t)) → x < length t
    by_case (inl p) = let e : ends_at t x ≡ true = ends_there t x p.0 in let f : true ≡ false = sym e ∙ h in cc
    by_case (inr p) = by_order (cases_lt x (length t))
      where
        by_order : (x < length t) ⊎ (length t ≤ x) → x < length t
        by_order (inl l) = l
        by_order (inr l) = absurd (p.1 (omega arith))

-- from s a text ends at a quote, or is broken
abbrev Ended : List ℕ → ℕ → Type 0
Ended t s = ((e : ℕ) × Body t s e × (get_or t e 0 ≡ 34) × (e < length t)) ⊎ ((e : LexError) × IsBrokenText t s e)

body_out : (t : List ℕ) (n s x : ℕ) → length t ≤ x + n → x ≤ length t → ((b : ℕ) → Body t x b → Body t s b) → Ended t s
body_out t zero s x fuel le on = by_case (eqb_tells x (length t))
  where
    by_case : (((x == length t) ≡ true) × (x ≡ length t)) ⊎ (((x == length t) ≡ false) × (x ≢ length t)) → Ended t s
    by_case (inl p) = inr (OpenText x, (ends_there t x p.0, inl (on x ends)))
    by_case (inr p) = absurd (p.1 (omega arith))
body_out t (suc n) s x fuel le on = by_end (λ y f w more. body_out t n s y f w more) (is_or_not (ends_at t x))
  where
    by_escape : ((y : ℕ) → length t ≤ y + n → y ≤ length t → ((b : ℕ) → Body t y b → Body t s b) → Ended t s) → x < length t → get_or t x 0 ≡ 92 → (ends_at t (x + 1) ≡ true) ⊎ (ends_at t (x + 1) ≡ false)
        → (is_escape (get_or t (x + 1) 0) ≡ true) ⊎ (is_escape (get_or t (x + 1) 0) ≡ false) → Ended t s
    by_escape again l slash (inl h) k = inr (OpenText (x + 1), (h, inr (x, on x ends, slash, refl)))
    by_escape again l slash (inr h) (inr k) = inr (BadByte x, (on x ends, slash, h, k))
    by_escape again l slash (inr h) (inl k) =
        let m : x + 1 < length t = inside t (x + 1) (omega arith) h in
        again (x + 2) (omega arith) (omega arith) (λ b more. on b (escape slash k more))

    by_byte : ((y : ℕ) → length t ≤ y + n → y ≤ length t → ((b : ℕ) → Body t y b → Body t s b) → Ended t s) → x < length t → ends_at t x ≡ false → (((get_or t x 0 == 34) ≡ true) × (get_or t x 0 ≡ 34)) ⊎ (((get_or t x 0 == 34) ≡ false) × (get_or t x 0 ≢ 34))
        → (((get_or t x 0 == 92) ≡ true) × (get_or t x 0 ≡ 92)) ⊎ (((get_or t x 0 == 92) ≡ false) × (get_or t x 0 ≢ 92)) → Ended t s
    by_byte again l h (inl p) q = inl (x, on x ends, p.1, l)
    by_byte again l h (inr p) (inl q) = by_escape again l q.1 (is_or_not (ends_at t (x + 1))) (is_or_not (is_escape (get_or t (x + 1) 0)))
    by_byte again l h (inr p) (inr q) = again (x + 1) (omega arith) (omega arith) (λ b more. on b (plain h p.1 q.1 more))

    by_end : ((y : ℕ) → length t ≤ y + n → y ≤ length t → ((b : ℕ) → Body t y b → Body t s b) → Ended t s) → (ends_at t x ≡ true) ⊎ (ends_at t x ≡ false) → Ended t s
    by_end again (inl h) = inr (OpenText x, (h, inl (on x ends)))
    by_end again (inr h) = by_byte again (inside t x le h) h (eqb_tells (get_or t x 0) 34) (eqb_tells (get_or t x 0) 92)

-- ---- tokens

abbrev token_of : TokenKind → ℕ → ℕ → Token
token_of k a b = record { kind = k; start = a; end = b }

abbrev Begins : List ℕ → ℕ → Type 0
Begins t a = (k : Token) × (k.start ≡ a) × IsToken t k

-- one byte is the longest of its kind
one_byte : (t : List ℕ) (k : TokenKind) (a : ℕ) → a < length t → HasForm t k a (a + 1) → ((c : ℕ) → HasForm t k a c → c ≡ a + 1) → IsMeant (slice_range t a (a + 1)) k → Begins t a
one_byte t k a less form one meant = (token_of k a (a + 1), refl, record { form = form; within = omega arith; longest = λ c more within f. omega (arith, one c f, more); meant = meant })

text_token : (t : List ℕ) (a e : ℕ) → get_or t a 0 ≡ 34 → Body t (a + 1) e → get_or t e 0 ≡ 34 → e < length t → Begins t a
text_token t a e quote body last less = (
  token_of kinds.Text a (e + 1),
  refl,
  record {
    form = (quote, e, body, last, refl);
    within = omega arith;
    longest = λ c more within (q, f, other, end, at). let le = body_over t (a + 1) e f body last other in omega (arith, le, more, at);
    meant = tt;
  },
)

broken_text : (t : List ℕ) (a : ℕ) (e : LexError) → get_or t a 0 ≡ 34 → IsBrokenText t (a + 1) e → BrokenAt t a e
broken_text t a (BadByte e) quote broken = inr (quote, broken)
broken_text t a (OpenText e) quote broken = (quote, broken)
broken_text t a (BadNumber e) quote broken = absurd broken
broken_text t a NoMemory quote broken = broken

digit_run : (t : List ℕ) (a b : ℕ) → is_digit (get_or t a 0) ≡ true → AllFrom is_word_byte t (a + 1) b → AllFrom is_word_byte t a b
digit_run t a b digit run i p q = by_first (cases_lt a i)
  where
    by_first : (a < i) ⊎ (i ≤ a) → IsTrue (is_word_byte (get_or t i 0))
    by_first (inl l) = run i (omega arith) q
    by_first (inr l) = let e : a ≡ i = omega arith in subst (λ (j : ℕ). is_word_byte (get_or t j 0) ≡ true) e (digit_is_word (get_or t a 0) digit)

-- where no gap goes on, a token begins or something is broken
begins_or_broken : (t : List ℕ) (a : ℕ) → a < length t → IsOver t a → (Begins t a → ⊥) → ((e : LexError) → BrokenAt t a e → ⊥) → ⊥
begins_or_broken t a less over begins broken =
    by_cases ((m : Punctuation) × (get_or t a 0 ≡ punctuation_byte m)) (by_punctuation (eqb_tells (get_or t a 0) 10) (eqb_tells (get_or t a 0) 34) (is_or_not (is_digit (get_or t a 0))) (is_or_not (begins_word t a)))
  where
    by_run : (b : ℕ) × (a + 1 ≤ b) × (b ≤ length t) × AllFrom is_word_byte t (a + 1) b × (b < length t → is_word_byte (get_or t b 0) ≡ false) → begins_word t a ≡ true → ⊥
    by_run (b, from, within, run, end) word = begins (
      token_of kinds.Word a b,
      refl,
      record {
        form = (word, omega arith, run);
        within = within;
        longest = λ c more inside f. run_over t (a + 1) b from end c more inside f.2;
        meant = tt;
      },
    )

    by_number : is_digit (get_or t a 0) ≡ true → (b : ℕ) → a + 1 ≤ b → b ≤ length t → AllFrom is_word_byte t (a + 1) b → (b < length t → is_word_byte (get_or t b 0) ≡ false)
        → (((n : ℕ) × IsNumber (slice_range t a b) n) ⊎ (((n : ℕ) × IsNumber (slice_range t a b) n) → ⊥)) → ⊥
    by_number digit b from within run end (inl (n, meant)) = begins (
      token_of (kinds.Number n) a b,
      refl,
      record {
        form = (digit, omega arith, run);
        within = within;
        longest = λ c more inside f. run_over t (a + 1) b from end c more inside f.2;
        meant = meant;
      },
    )
    by_number digit b from within run end (inr never) = broken (BadNumber a) (refl, digit, (b, omega arith, digit_run t a b digit run, end, within, λ n meant. never (n, meant)))

    by_digits : is_digit (get_or t a 0) ≡ true → (b : ℕ) × (a + 1 ≤ b) × (b ≤ length t) × AllFrom is_word_byte t (a + 1) b × (b < length t → is_word_byte (get_or t b 0) ≡ false) → ⊥
    by_digits digit (b, from, within, run, end) = by_cases ((n : ℕ) × IsNumber (slice_range t a b) n) (by_number digit b from within run end)

    by_quote : get_or t a 0 ≡ 34 → Ended t (a + 1) → ⊥
    by_quote quote (inl (e, body, last, l)) = begins (text_token t a e quote body last l)
    by_quote quote (inr (e, h)) = broken e (broken_text t a e quote h)

    nothing : AllFrom is_word_byte t (a + 1) (a + 1)
    nothing i p q = absurd (omega (arith, p, q))

    by_punctuation : (((get_or t a 0 == 10) ≡ true) × (get_or t a 0 ≡ 10)) ⊎ (((get_or t a 0 == 10) ≡ false) × (get_or t a 0 ≢ 10))
        → (((get_or t a 0 == 34) ≡ true) × (get_or t a 0 ≡ 34)) ⊎ (((get_or t a 0 == 34) ≡ false) × (get_or t a 0 ≢ 34))
        → (is_digit (get_or t a 0) ≡ true) ⊎ (is_digit (get_or t a 0) ≡ false) → (begins_word t a ≡ true) ⊎ (begins_word t a ≡ false)
        → (((m : Punctuation) × (get_or t a 0 ≡ punctuation_byte m)) ⊎ (((m : Punctuation) × (get_or t a 0 ≡ punctuation_byte m)) → ⊥)) → ⊥
    by_punctuation line quote digit word (inl (m, e)) = begins (one_byte t (kinds.Punctuation m) a less (e, refl) (λ c f. f.1) tt)
    by_punctuation (inl p) quote digit word (inr never) = begins (one_byte t kinds.LineFeed a less (p.1, refl) (λ c f. f.1) tt)
    by_punctuation (inr p) (inl q) digit word (inr never) = by_quote q.1 (body_out t (length t) (a + 1) (a + 1) (omega arith) (omega arith) (λ b more. more))
    by_punctuation (inr p) (inr q) (inl d) word (inr never) = by_digits d (run_out t (length t) (a + 1) (a + 1) (omega arith) (omega arith) (omega arith) nothing)
    by_punctuation (inr p) (inr q) (inr d) (inl w) (inr never) = by_run (run_out t (length t) (a + 1) (a + 1) (omega arith) (omega arith) (omega arith) nothing) w
    by_punctuation (inr p) (inr q) (inr d) (inr w) (inr never) =
        broken (BadByte a) (inl (refl, less, over, (λ k here f. no_form t a p.1 (λ m e. never (m, e)) q.1 d w k.kind k.end (subst (λ (i : ℕ). HasForm t k.kind i k.end) here f)), q.1))

-- ---- the whole text

read_on : (t : List ℕ) (n a : ℕ) (ks : List Token) → length t ≤ a + n → a ≤ length t → AreTokens t 0 ks a
    → ((ks : List Token) → IsReadAs t ks → ⊥) → ((e : LexError) → IsLexFault t e → ⊥) → ⊥
read_on t zero a ks fuel le tokens no_reading no_fault = let e : a ≡ length t = omega arith in no_reading ks (a, tokens, subst (λ (i : ℕ). Gap t a i) e none)
read_on t (suc n) a ks fuel le tokens no_reading no_fault =
    gap_out t (length t) a (omega arith) le (λ g gap over within. by_end (λ b js f w h. read_on t n b js f w h no_reading no_fault) g gap over (cases_lt g (length t)) within)
  where
    by_token : ((b : ℕ) (js : List Token) → length t ≤ b + n → b ≤ length t → AreTokens t 0 js b → ⊥) → (g : ℕ) → Gap t a g → Begins t g → ⊥
    by_token again g gap (k, here, x) =
        let from : a ≤ g = gap_le t a g gap in
        let more : k.start < k.end = form_lt t k.kind k.start k.end x.form in
        let w : k.end ≤ length t = x.within in
        again k.end (ks ++ k ∷ []) (omega (arith, here)) w (AreTokens-snoc t 0 a ks k tokens (subst (λ (i : ℕ). Gap t a i) (sym here) gap) x)

    by_end : ((b : ℕ) (js : List Token) → length t ≤ b + n → b ≤ length t → AreTokens t 0 js b → ⊥) → (g : ℕ) → Gap t a g → IsOver t g → (g < length t) ⊎ (length t ≤ g) → g ≤ length t → ⊥
    by_end again g gap over (inr l) within = let e : g ≡ length t = omega arith in no_reading ks (a, tokens, subst (λ (i : ℕ). Gap t a i) e gap)
    by_end again g gap over (inl l) within = begins_or_broken t g l over (by_token again g gap) (λ e broken. no_fault e (ks, a, g, tokens, gap, broken))

pub neither : (t : List ℕ) → ((ks : List Token) → IsReadAs t ks → ⊥) → ((e : LexError) → IsLexFault t e → ⊥) → ⊥
neither t no_reading no_fault = read_on t (length t) 0 [] (omega arith) (omega arith) refl no_reading no_fault
