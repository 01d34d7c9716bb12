-- How a text is read line by line (our own).
use Rattle.std.specs.Prelude.{◌≡◌, ℕ, ◌+◌, List, ◌∷◌, ◌++◌, length, map, Option, Some, None}
use Rattle.mx_text.specs.declared.error.BootError.{BootError}
use Rattle.mx_text.specs.declared.error.BootError.TheVariants.{BadRecord, NoMemory}

-- these are what the lines are read as, if `says` reads one line
abbrev pub AreLinesRead : {T : Type 0} → (List ℕ → Option T) → List (List ℕ) → List T → Type 0
AreLinesRead says lines xs = map says lines ≡ map Some xs

-- the line of this number, counted from 1, isn't well formed, and each above it is
abbrev pub IsFirstUnread : {T : Type 0} → (List ℕ → Option T) → List (List ℕ) → ℕ → Type 0
IsFirstUnread {T} says lines n =
    (above below : List (List ℕ)) × (line : List ℕ) × (xs : List T) × (lines ≡ above ++ line ∷ below)
    × AreLinesRead says above xs × (says line ≡ None) × (n ≡ length above + 1)

-- the error if nothing is answered: the first line that isn't well formed, and lack of memory only if each line is
abbrev pub TellsUnread : {T : Type 0} → (List ℕ → Option T) → List (List ℕ) → BootError → Type 0
TellsUnread says lines (BadRecord n) = IsFirstUnread says lines n
TellsUnread {T} says lines NoMemory = (xs : List T) × AreLinesRead says lines xs
TellsUnread says lines _ = ⊥
