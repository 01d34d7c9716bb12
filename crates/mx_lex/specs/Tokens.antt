-- Which tokens an assembler text is made of (our own notation).
use Rattle.std.specs.Prelude.{◌≡◌, ◌≢◌, ℕ, ◌+◌, ◌<◌, ◌≤◌, ◌⊎◌, true, false, List, [], ◌∷◌, length, slice_index}
use Rattle.std.specs.Prelude.{slice_range, ⊤}
use Rattle.mx_text.specs.Bytes.{is_digit, is_word_byte}
use Rattle.mx_text.specs.Numbers.{IsNumber}
use Rattle.mx_lex.specs.Bytes.{is_escape, ends_at, AllFrom, begins_word}
use Rattle.mx_lex.specs.declared.kinds.Punctuation.{Punctuation}
use Rattle.mx_lex.specs.declared.kinds.Punctuation.TheVariants.{Open, Close, Plus, Minus, Star, Comma, Colon}
use Rattle.mx_lex.specs.declared.kinds.TokenKind.{TokenKind}
use Rattle.mx_lex.specs.declared.kinds.TokenKind.TheVariants as kinds
use Rattle.mx_lex.specs.declared.kinds.Token.{Token}
use Rattle.mx_lex.specs.declared.kinds.LexError.{LexError}
use Rattle.mx_lex.specs.declared.kinds.LexError.TheVariants.{BadByte, BadNumber, OpenText, NoMemory}

-- ---- texts

-- from a up to b are only bytes of a text and whole escapes
pub data Body (t : List ℕ) : ℕ → ℕ → Type 0 where
  ends : {a : ℕ} → Body t a a
  plain : {a b : ℕ} → ends_at t a ≡ false → slice_index t a ≢ 34 → slice_index t a ≢ 92 → Body t (a + 1) b → Body t a b
  escape : {a b : ℕ} → slice_index t a ≡ 92 → is_escape (slice_index t (a + 1)) ≡ true → Body t (a + 2) b → Body t a b

-- ---- tokens

abbrev pub punctuation_byte : Punctuation → ℕ
punctuation_byte Open = 91
punctuation_byte Close = 93
punctuation_byte Plus = 43
punctuation_byte Minus = 45
punctuation_byte Star = 42
punctuation_byte Comma = 44
punctuation_byte Colon = 58

-- the bytes from a up to b have the form of a kind: what begins with a digit runs on over letters, digits and _
abbrev pub HasForm : List ℕ → TokenKind → ℕ → ℕ → Type 0
HasForm t kinds.LineFeed a b = (slice_index t a ≡ 10) × (b ≡ a + 1)
HasForm t (kinds.Punctuation m) a b = (slice_index t a ≡ punctuation_byte m) × (b ≡ a + 1)
HasForm t kinds.Word a b = (begins_word t a ≡ true) × (a < b) × AllFrom is_word_byte t (a + 1) b
HasForm t (kinds.Number n) a b = (is_digit (slice_index t a) ≡ true) × (a < b) × AllFrom is_word_byte t (a + 1) b
HasForm t kinds.Text a b = (slice_index t a ≡ 34) × (e : ℕ) × Body t (a + 1) e × (slice_index t e ≡ 34) × (b ≡ e + 1)

-- a number is what its bytes spell
abbrev pub IsMeant : List ℕ → TokenKind → Type 0
IsMeant bytes (kinds.Number n) = IsNumber bytes n
IsMeant bytes _ = ⊤

-- a slice of the text, the longest of its kind
pub record IsToken (t : List ℕ) (k : Token) : Type 0 where
  pub form : HasForm t k.kind k.start k.end
  pub within : k.end ≤ length t
  pub longest : (c : ℕ) → k.end < c → c ≤ length t → HasForm t k.kind k.start c → ⊥
  pub meant : IsMeant (slice_range t k.start k.end) k.kind

-- from a up to b are only blanks, comments and carriage returns at a line's end
pub data Gap (t : List ℕ) : ℕ → ℕ → Type 0 where
  none : {a : ℕ} → Gap t a a
  blank : {a b : ℕ} → (slice_index t a ≡ 32) ⊎ (slice_index t a ≡ 9) → Gap t (a + 1) b → Gap t a b
  carriage_return : {a b : ℕ} → slice_index t a ≡ 13 → ends_at t a ≡ true → Gap t (a + 1) b → Gap t a b
  comment : {a b c : ℕ} → slice_index t a ≡ 59 → a < c → ((k : ℕ) → a + 1 ≤ k → k < c → slice_index t k ≢ 10)
      → (c ≡ length t) ⊎ (slice_index t c ≡ 10) → Gap t c b → Gap t a b

-- the tokens from a up to b, in order, with only gaps between
abbrev pub AreTokens : List ℕ → ℕ → List Token → ℕ → Type 0
AreTokens t a [] b = a ≡ b
AreTokens t a (k ∷ ks) b = Gap t a k.start × IsToken t k × AreTokens t k.end ks b

-- neither a blank, a comment nor a carriage return at a line's end is at an offset
abbrev pub IsOver : List ℕ → ℕ → Type 0
IsOver t a = (b : ℕ) → a < b → Gap t a b → ⊥

-- the text whose body begins at a place is broken at another: an escape is none, or the line ends first
abbrev pub IsBrokenText : List ℕ → ℕ → LexError → Type 0
IsBrokenText t a (BadByte e) =
    Body t a e × (slice_index t e ≡ 92) × (ends_at t (e + 1) ≡ false) × (is_escape (slice_index t (e + 1)) ≡ false)
IsBrokenText t a (OpenText e) =
    (ends_at t e ≡ true) × (Body t a e ⊎ ((b : ℕ) × Body t a b × (slice_index t b ≡ 92) × (e ≡ b + 1)))
IsBrokenText t a _ = ⊥

-- no token begins at a place
abbrev pub NoToken : List ℕ → ℕ → Type 0
NoToken t a = (k : Token) → k.start ≡ a → HasForm t k.kind k.start k.end → ⊥

-- what begins at a place is broken: nothing begins there, its run is no number, or it is a broken text
abbrev pub BrokenAt : List ℕ → ℕ → LexError → Type 0
BrokenAt t a (BadByte e) =
    ((e ≡ a) × (a < length t) × IsOver t a × NoToken t a × (slice_index t a ≢ 34))
    ⊎ ((slice_index t a ≡ 34) × IsBrokenText t (a + 1) (BadByte e))
BrokenAt t a (BadNumber e) =
    (e ≡ a) × (is_digit (slice_index t a) ≡ true) ×
    ((b : ℕ) × (a < b) × AllFrom is_word_byte t a b × (b < length t → is_word_byte (slice_index t b) ≡ false)
    × (b ≤ length t) ×
    ((n : ℕ) → IsNumber (slice_range t a b) n → ⊥))
BrokenAt t a (OpenText e) = (slice_index t a ≡ 34) × IsBrokenText t (a + 1) (OpenText e)
BrokenAt t a NoMemory = ⊥

-- these are the tokens of the whole text
abbrev pub IsReadAs : List ℕ → List Token → Type 0
IsReadAs t ks = (b : ℕ) × AreTokens t 0 ks b × Gap t b (length t)

-- the first fault: before it are tokens and a gap
abbrev pub IsLexFault : List ℕ → LexError → Type 0
IsLexFault t e = (ks : List Token) × (b a : ℕ) × AreTokens t 0 ks b × Gap t b a × BrokenAt t a e

-- the first fault, unless memory runs out
abbrev pub TellsLexFault : List ℕ → LexError → Type 0
TellsLexFault t NoMemory = ⊤
TellsLexFault t e = IsLexFault t e

-- a text has two quotes, another token a byte at least
abbrev pub least : TokenKind → ℕ
least kinds.Text = 2
least _ = 1

-- from one place in the text up to another after it
abbrev pub IsSlice : List ℕ → Token → Type 0
IsSlice t k = (k.start + least k.kind ≤ k.end) × (k.end ≤ length t)
