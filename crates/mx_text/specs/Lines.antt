-- The lines of a text (our own).
use Rattle.std.specs.Prelude.{ℕ, ◌==◌, if◌then◌else◌, List, [], ◌∷◌, length}

-- the line that begins with a byte and goes on as the first of these
abbrev pub begun_by : ℕ → List (List ℕ) → List (List ℕ)
begun_by b [] = (b ∷ []) ∷ []
begun_by b (l ∷ ls) = (b ∷ l) ∷ ls

-- a line feed ends a line; what follows the last one is a line only if it isn't empty
abbrev pub lines : List ℕ → List (List ℕ)
lines [] = []
lines (b ∷ bs) = if b == 10 then [] ∷ lines bs else begun_by b (lines bs)

-- the number of the last line; an empty text has it at 1
abbrev pub last_line : List (List ℕ) → ℕ
last_line [] = 1
last_line (l ∷ ls) = length (l ∷ ls)
