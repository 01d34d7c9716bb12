-- The sixteen ready lists (book, 2.6): 0 is the highest, and the last one is the idle list.
use Rattle.std.specs.Prelude.{ℕ, ◌+◌, ◌<◌, ◌≡◌, length, Bool, true, false, ◌==◌, List, [], ◌∷◌, filter, slice_index_or}
use Rattle.std.specs.Prelude.{Option, Some, None}
use Rattle.std.specs.Int.{bit_at}
use Rattle.std.proofs.Common.{not}

-- the list without this slot, the others in order
abbrev pub without : ℕ → List ℕ → List ℕ
without slot slots = filter (λ x. not (x == slot)) slots

-- the list of a level
abbrev pub list_at : List (List ℕ) → ℕ → List ℕ
list_at lists level = slice_index_or lists level []

-- the front of the lowest list that isn't empty
abbrev pub first_ready : List (List ℕ) → Option ℕ
first_ready [] = None
first_ready ([] ∷ lists) = first_ready lists
first_ready ((slot ∷ slots) ∷ lists) = Some slot

-- 1 for true
abbrev pub tally : Bool → ℕ
tally true = 1
tally false = 0

-- how often a slot is in a list
abbrev pub times : ℕ → List ℕ → ℕ
times slot [] = 0
times slot (x ∷ slots) = tally (x == slot) + times slot slots

-- a slot is in none of the lists
abbrev pub InNoList : List (List ℕ) → ℕ → Type 0
InNoList lists slot = (level : ℕ) → times slot (list_at lists level) ≡ 0

-- 1 if a list isn't empty
abbrev pub some_in : List ℕ → ℕ
some_in [] = 0
some_in (slot ∷ slots) = 1

-- Sixteen lists; bit l of a word is 1 if list l isn't empty.
pub record AreFilled (filled : ℕ) (lists : List (List ℕ)) : Type 0 where
  pub long : length lists ≡ 16
  pub bits : (level : ℕ) → level < 16 → bit_at filled level ≡ some_in (list_at lists level)
