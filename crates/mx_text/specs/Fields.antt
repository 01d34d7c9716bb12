-- The fields of a line, and what reads a few of them (our own notation).
use Rattle.std.specs.Prelude.{ℕ, Bool, true, false, ◌==◌, List, [], ◌∷◌, filter, Option, Some, None}
use Rattle.std.specs.List.{slice_split}

abbrev pub is_space : ℕ → Bool
is_space b = b == 32

abbrev pub has_bytes : List ℕ → Bool
has_bytes [] = false
has_bytes (b ∷ bs) = true

-- what is between spaces; one or more of them separate two fields, also at a line's ends
abbrev pub fields : List ℕ → List (List ℕ)
fields line = filter has_bytes (slice_split is_space line)

-- the field, if there is exactly one
abbrev pub only : List (List ℕ) → Option (List ℕ)
only (f ∷ []) = Some f
only _ = None

-- both fields, if there are exactly two
abbrev pub pair : List (List ℕ) → Option (List ℕ × List ℕ)
pair (f ∷ g ∷ []) = Some (f, g)
pair _ = None

-- what follows from the value that there is, if there is one
infixl 10 ◌>>=◌
abbrev pub ◌>>=◌ : {A B : Type 0} → Option A → (A → Option B) → Option B
None >>= f = None
(Some x) >>= f = f x
