-- Words parted by single spaces, and lines of them, as they are written (our own).
use Rattle.std.specs.Prelude.{ℕ, ◌==◌, ◌&&◌, ◌||◌, ◌≡◌, Bool, true, not, List, [], ◌∷◌, ◌++◌, codes}
use Rattle.std.specs.List.{list_all, flat_map, AllByRecursion}
use Rattle.mx_text.specs.Fields.{has_bytes}

-- neither a space nor a line feed
abbrev pub is_word_byte_of_script : ℕ → Bool
is_word_byte_of_script b = not (b == 32 || b == 10)

-- a word that may be a field
abbrev pub is_field_word : List ℕ → Bool
is_field_word w = has_bytes w && list_all is_word_byte_of_script w

abbrev pub AreWords : List (List ℕ) → Type 0
AreWords ws = AllByRecursion (λ w. is_field_word w ≡ true) ws

-- words with one space between two
abbrev pub joined_words : List (List ℕ) → List ℕ
joined_words [] = []
joined_words (w ∷ []) = w
joined_words (w ∷ v ∷ ws) = w ++ 32 ∷ joined_words (v ∷ ws)

-- a line of words for each list, each ended by a line feed
abbrev pub lines_of_words : List (List (List ℕ)) → List ℕ
lines_of_words lists = flat_map (λ ws. joined_words ws ++ codes "\n") lists
