-- Text between tags, and attributes (XML 1.0).
use Rattle.std.specs.Prelude.{ℕ, ◌+◌, ◌-◌, ◌==◌, ◌&&◌, ◌||◌, nat_lt, if◌then◌else◌, Bool, List, [], ◌∷◌, ◌++◌, codes, length, slice_index}
use Rattle.std.specs.List.{flat_map, range_with_len}
use Rattle.std.specs.Fmt.{decimal}

-- two numbers, parted by a space
unfoldable pub pair : ℕ → ℕ → List ℕ
pair x y = decimal x ++ codes " " ++ decimal y

-- & and the brackets are written by their names
unfoldable pub escaped : ℕ → List ℕ
escaped b =
    if b == 38 then codes "&amp;" else if b == 60 then codes "&lt;" else if b == 62 then codes "&gt;" else b ∷ []

-- the end of the last line, and a space after a space
abbrev pub is_left_out : List ℕ → ℕ → Bool
is_left_out line i =
    ((slice_index line i == 10) && (i + 1 == length line))
    || (nat_lt 0 i && (slice_index line i == 32) && (slice_index line (i - 1) == 32))

unfoldable pub shown_byte : List ℕ → ℕ → List ℕ
shown_byte line i = if is_left_out line i then [] else escaped (slice_index line i)

-- A TEXT AS IT IS SHOWN
unfoldable pub shown : List ℕ → List ℕ
shown line = flat_map (shown_byte line) (range_with_len 0 (length line))

-- an attribute with a number
unfoldable pub attribute : List ℕ → ℕ → List ℕ
attribute name n = 32 ∷ name ++ codes "=\"" ++ decimal n ++ codes "\""
