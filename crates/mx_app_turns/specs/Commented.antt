-- Texts whose lines may be empty, or have a comment (our own).
use Rattle.std.specs.Prelude.{◌≡◌, ℕ, List, [], ◌∷◌, Option, Some, None}
use Rattle.std.specs.List.{before_first, filter_map}
use Rattle.std.specs.Option.{option_map}
use Rattle.mx_boot.specs.Items.{is_hash, said_in}
use Rattle.mx_boot.specs.Reading.{AreLinesRead, TellsUnread}
use Rattle.mx_text.specs.declared.error.BootError.{BootError}

-- what the part of a line before its comment is read as, by its fields: nothing is said if it has none
abbrev pub note_by : {T : Type 0} → Option T → List (List ℕ) → Option (Option T)
note_by said [] = Some None
note_by said (f ∷ fs) = option_map Some said

-- what a line is read as, if `says` reads the part before its comment
abbrev pub note_of : {T : Type 0} → (List ℕ → Option T) → List ℕ → Option (Option T)
note_of says line = note_by (says (before_first is_hash line)) (said_in line)

-- these are what the lines say that say anything
abbrev pub AreSaid : {T : Type 0} → (List ℕ → Option T) → List (List ℕ) → List T → Type 0
AreSaid {T} says lines xs =
    (notes : List (Option T)) × AreLinesRead (note_of says) lines notes × (xs ≡ filter_map (λ note. note) notes)

-- the error if nothing is answered: the first line that isn't well formed
abbrev pub TellsUnsaid : {T : Type 0} → (List ℕ → Option T) → List (List ℕ) → BootError → Type 0
TellsUnsaid says lines e = TellsUnread (note_of says) lines e
