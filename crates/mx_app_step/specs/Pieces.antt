-- What is printed of a text that is printed in pieces (our own).
use Rattle.std.specs.Prelude.{◌≡◌, ℕ, List, ◌++◌, Option}
use Rattle.std.specs.Io.KnownBytes.{Appends}

-- a text is printed but for this end of it
abbrev pub IsPrintedBut : Option (List ℕ) → Option (List ℕ) → List ℕ → List ℕ → Type 0
IsPrintedBut old new end text = (front : List ℕ) × Appends old new front × (text ≡ front ++ end)
