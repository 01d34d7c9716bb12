-- What single bytes of an assembler text are, and the bytes of a text between quotes (our own notation).
use Rattle.std.specs.Prelude.{ℕ, ◌+◌, ◌<◌, ◌≤◌, Bool, ◌&&◌, ◌||◌, ◌==◌, if◌then◌else◌, List, [], ◌∷◌, length}
use Rattle.std.specs.Prelude.{slice_index, IsTrue}
use Rattle.mx_text.specs.Bytes.{is_letter, begins_name}

-- what may follow a backslash: n, 0, a quote, a backslash
abbrev pub is_escape : ℕ → Bool
is_escape b = b == 110 || b == 48 || b == 34 || b == 92

-- a line ends at an offset if the text's end or a line feed is there, or a carriage return before one of
-- these
abbrev pub ends_at : List ℕ → ℕ → Bool
ends_at t i =
    i == length t || slice_index t i == 10
    || (slice_index t i == 13 && (i + 1 == length t || slice_index t (i + 1) == 10))

-- each byte from a up to b
abbrev pub AllFrom : (ℕ → Bool) → List ℕ → ℕ → ℕ → Type 0
AllFrom p t a b = (k : ℕ) → a ≤ k → k < b → IsTrue (p (slice_index t k))

-- a word begins with a letter or the underscore, or with a dot before a letter
abbrev pub begins_word : List ℕ → ℕ → Bool
begins_word t i = begins_name (slice_index t i) || (slice_index t i == 46 && is_letter (slice_index t (i + 1)))

-- \n is a line feed, \0 a zero byte; a quote and a backslash are themselves
abbrev pub escape_value : ℕ → ℕ
escape_value b = if b == 110 then 10 else if b == 48 then 0 else b

-- the bytes of a text, of what is between its quotes
abbrev pub text_value : List ℕ → List ℕ
text_value [] = []
text_value (b ∷ []) = b ∷ []
text_value (b ∷ c ∷ bs) = if b == 92 then escape_value c ∷ text_value bs else b ∷ text_value (c ∷ bs)
