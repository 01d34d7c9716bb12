-- Tables of words: rows of a word and what it names.
use Rattle.std.specs.Prelude.{ℕ, Bool, true, ◌&&◌, cond, List, [], ◌∷◌, Option, Some, None, nat_eq}
use Rattle.std.specs.Ordering.{nat_cmp, is_lt}
use Rattle.std.specs.Cmp.Lexicographic.{pointwise, slice_cmp}
use Rattle.mx_insn_words.specs.declared.sorted_words.Named.{Named}

-- what the first row of a word has
abbrev pub lookup : {T : Type 0} → List (Named T) → List ℕ → Option T
lookup [] w = None
lookup (row ∷ rows) w = cond (pointwise nat_eq row.word.now w) (Some row.value) (lookup rows w)

-- each word comes before the next, byte for byte
abbrev pub is_sorted : {T : Type 0} → List (Named T) → Bool
is_sorted [] = true
is_sorted (row ∷ []) = true
is_sorted (row ∷ next ∷ rows) = is_lt (slice_cmp nat_cmp row.word.now next.word.now) && is_sorted (next ∷ rows)
