-- The word that a line has at a place, as it is printed (our own).
use Rattle.std.specs.Prelude.{ℕ, ◌==◌, ◌||◌, ◌&&◌, nat_lt, Bool, if◌then◌else◌, List, [], ◌++◌, codes, slice_index, Option, Some, None}
use Rattle.std.specs.List.{list_any}
use Rattle.std.specs.Str.{is_utf8}
use Rattle.mx_app_explain.specs.declared.found_word.FoundWord.{FoundWord}
use Rattle.mx_app_explain.specs.declared.found_word.FoundWord.TheVariants.{Unseen, Nothing, Word, Return, ByteOrderMark, Tab, Bytes}

abbrev pub is_return : ℕ → Bool
is_return b = b == 13

abbrev pub is_tab : ℕ → Bool
is_tab b = b == 9

-- below the space, or DEL
abbrev pub is_control : ℕ → Bool
is_control b = nat_lt b 32 || b == 127

-- the byte order mark of UTF-8
abbrev pub is_marked : List ℕ → Bool
is_marked word = slice_index word 0 == 239 && slice_index word 1 == 187 && slice_index word 2 == 191

abbrev pub word_told : List ℕ → List ℕ
word_told word = codes ", stands \"" ++ word ++ codes "\""

abbrev pub nothing_told : List ℕ
nothing_told = codes ", where the line ends"

abbrev pub return_told : List ℕ
return_told = codes ", stands a word with a carriage return: a line ends in a line feed alone"

abbrev pub mark_told : List ℕ
mark_told = codes ", stands a byte order mark, which a text may not have"

abbrev pub tab_told : List ℕ
tab_told = codes ", stands a word with a tab: between words are spaces alone"

abbrev pub bytes_told : List ℕ
bytes_told = codes ", stands a word with bytes that aren't printable"

-- A WORD that a line has: itself, if that can be printed
unfoldable pub field_told : List ℕ → List ℕ
field_told word =
    if list_any is_return word then return_told else
    if is_marked word then mark_told else
    if list_any is_tab word then tab_told else
    if list_any is_control word then bytes_told else
    if is_utf8 word then word_told word else
    bytes_told

-- or nothing, at the line's end
abbrev pub found_at : Option (List ℕ) → List ℕ
found_at None = nothing_told
found_at (Some word) = field_told word

abbrev pub found_told : FoundWord → List ℕ
found_told Unseen = []
found_told Nothing = nothing_told
found_told (Word text) = word_told text.now
found_told Return = return_told
found_told ByteOrderMark = mark_told
found_told Tab = tab_told
found_told Bytes = bytes_told
