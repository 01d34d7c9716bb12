-- Texts and lists in JSON (RFC 8259), of bytes that can stand in a script element of HTML.
use Rattle.std.specs.Prelude.{ℕ, ◌≡◌, ◌≤◌, ◌<◌, ◌≢◌, ◌==◌, ◌&&◌, ◌||◌, nat_lt, not, if◌then◌else◌, Bool, true, List, [], ◌∷◌, ◌++◌, codes, drop}
use Rattle.std.specs.List.{flat_map, list_all}
use Rattle.std.specs.Fmt.{decimal}
use Rattle.mx_print_report.specs.Numbers.{two_digits}

-- a byte that isn't written as it is: a control, < , and what is no character of ASCII
abbrev pub is_coded : ℕ → Bool
is_coded b = nat_lt b 32 || ((b == 60) || nat_lt 126 b)

-- a byte of a text: the quote, the backslash and the line feed have a short form, the others that are coded four digits
unfoldable pub escaped : ℕ → List ℕ
escaped b =
    if b == 34 then codes "\\\"" else if b == 92 then codes "\\\\" else if b == 10 then codes "\\n"
    else if is_coded b then codes "\\u00" ++ two_digits b else b ∷ []

-- What a reader of JSON makes of what stands between the quotes (RFC 8259, 7): the first bytes stand for the others.
pub data Reads : List ℕ → List ℕ → Type 0 where
  at_end : Reads [] []
  as_it_is : (b : ℕ) (t bytes : List ℕ) → 32 ≤ b → b ≢ 34 → b ≢ 92 → Reads t bytes → Reads (b ∷ t) (b ∷ bytes)
  quote : (t bytes : List ℕ) → Reads t bytes → Reads (codes "\\\"" ++ t) (34 ∷ bytes)
  backslash : (t bytes : List ℕ) → Reads t bytes → Reads (codes "\\\\" ++ t) (92 ∷ bytes)
  line_feed : (t bytes : List ℕ) → Reads t bytes → Reads (codes "\\n" ++ t) (10 ∷ bytes)
  by_number : (b : ℕ) (t bytes : List ℕ) → b < 256 → Reads t bytes → Reads (codes "\\u00" ++ two_digits b ++ t) (b ∷ bytes)

-- A TEXT
unfoldable pub text : List ℕ → List ℕ
text bytes = codes "\"" ++ flat_map escaped bytes ++ codes "\""

-- a number after a comma
abbrev pub numbered : ℕ → List ℕ
numbered n = codes "," ++ decimal n

-- A LIST of items, each of which has a comma before it: the first one stands without
abbrev pub list_of : List ℕ → List ℕ
list_of items = codes "[" ++ drop 1 items ++ codes "]"

-- the name of a member that isn't the first of its object
abbrev pub member : List ℕ → List ℕ
member name = codes ",\"" ++ name ++ codes "\":"

-- ---- what stands in a line

-- a character of ASCII, but for <
abbrev pub is_plain : ℕ → Bool
is_plain b = nat_lt 31 b && (nat_lt b 127 && not (b == 60))

abbrev pub ArePlain : List ℕ → Type 0
ArePlain bytes = list_all is_plain bytes ≡ true

-- A LINE, with its end, and none before
abbrev pub IsPlainLine : List ℕ → Type 0
IsPlainLine bytes = (line : List ℕ) × (bytes ≡ line ++ codes "\n") × ArePlain line
