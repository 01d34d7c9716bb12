-- Help that is asked for by its own word (our own).
use Rattle.std.specs.Prelude.{ℕ, Bool, false, if◌then◌else◌, List, [], ◌∷◌, ◌++◌, codes}
use Rattle.std.specs.Str.{bytes_eq}

-- the words begin with this one, after the program's own name
abbrev pub begin_with : List ℕ → List (List ℕ) → Bool
begin_with word (own ∷ first ∷ rest) = bytes_eq first word
begin_with word words = false

-- `help` before words is `--help` after them
abbrev pub help_last : List (List ℕ) → List (List ℕ)
help_last (own ∷ first ∷ rest) =
    if bytes_eq first (codes "help") then own ∷ rest ++ codes "--help" ∷ [] else own ∷ first ∷ rest
help_last words = words
