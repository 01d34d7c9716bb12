-- The words of a line of a text for the assembler, as one who mends it sees them (our own). A line at fault need not
-- have tokens, so it is parted without them.
use Rattle.std.specs.Prelude.{◌==◌, ◌||◌, ◌&&◌, not, nat_lt, ℕ, Bool, if◌then◌else◌, List, [], ◌∷◌, length, drop, slice_index, Option, Some, None, is_some}
use Rattle.std.specs.List.{before_first, flat_map, list_any}
use Rattle.std.specs.Str.{bytes_eq}
use Rattle.std.specs.Prelude.{codes}
use Rattle.mx_text.specs.Bytes.{begins_name, is_between, is_digit, is_word_byte}
use Rattle.mx_text.specs.Fields.{fields}
use Rattle.mx_boot.specs.Items.{is_byte}
use Rattle.mx_text.specs.NumberFields.{number_up_to}
use Rattle.mx_word.specs.declared.size.Size.TheVariants.{Byte, Word, Dword}
use Rattle.mx_word.specs.declared.names.Register.TheVariants.{Eax, Ecx, Edx, Ebx, Esp, Ebp, Esi, Edi}
use Rattle.mx_insn_words.specs.Registers.{register_word, size_word}

-- ---- words

-- one of [ ] + - * , :
abbrev pub is_punctuation : ℕ → Bool
is_punctuation b = b == 91 || (b == 93 || (b == 43 || (b == 45 || (b == 42 || (b == 44 || b == 58)))))

abbrev pub is_blank : ℕ → Bool
is_blank b = b == 32 || (b == 9 || b == 13)

-- a mark is a word of its own, and any blank is a space; a semicolon begins a comment
abbrev pub spaced_byte : ℕ → List ℕ
spaced_byte b = if is_punctuation b then 32 ∷ b ∷ 32 ∷ [] else (if is_blank b then 32 ∷ [] else b ∷ [])

abbrev pub with_spaces : List ℕ → List ℕ
with_spaces line = flat_map spaced_byte (before_first (is_byte 59) line)

-- THE WORDS of a line, up to its comment
abbrev pub words_in : List ℕ → List (List ℕ)
words_in line = fields (with_spaces line)

-- ---- what a word is

abbrev pub is_quote : ℕ → Bool
is_quote b = b == 34

abbrev pub is_equals : ℕ → Bool
is_equals b = b == 61

abbrev pub is_beyond_ascii : ℕ → Bool
is_beyond_ascii b = nat_lt 127 b

-- # or / begins a comment of other languages
abbrev pub begins_comment : List ℕ → Bool
begins_comment w = (slice_index w 0 == 35) || (slice_index w 0 == 47)

-- n, 0, a quote and a backslash may be after a backslash in a text
abbrev pub is_escaped : ℕ → Bool
is_escaped b = b == 110 || (b == 48 || (b == 34 || b == 92))

-- the first escape that no text has: a backslash, and what is after it in the word
abbrev pub bad_escape : List ℕ → Option (List ℕ)
bad_escape [] = None
bad_escape (b ∷ []) = if b == 92 then Some (b ∷ []) else None
bad_escape (b ∷ c ∷ bs) =
    if b == 92 then (if is_escaped c then bad_escape bs else Some (b ∷ c ∷ [])) else bad_escape (c ∷ bs)

-- no part of a word, a mark or a directive
abbrev pub is_odd_byte : ℕ → Bool
is_odd_byte b = not (is_word_byte b || (is_punctuation b || b == 46))

abbrev pub begins_with_digit : List ℕ → Bool
begins_with_digit w = is_digit (slice_index w 0)

-- decimal, or hexadecimal after 0x
abbrev pub is_number : List ℕ → Bool
is_number w =
    if nat_lt 2 (length w)
    && (slice_index w 0 == 48 && slice_index w 1 == 120) then is_some (number_up_to 4294967295 16 (drop 2 w))
    else is_some (number_up_to 4294967295 10 w)

abbrev pub is_bad_number : List ℕ → Bool
is_bad_number w = begins_with_digit w && not (is_number w)

abbrev pub is_long_name : List ℕ → Bool
is_long_name w = begins_name (slice_index w 0) && nat_lt 8 (length w)

abbrev pub is_punctuation_word : List ℕ → Bool
is_punctuation_word w = is_punctuation (slice_index w 0)

abbrev pub is_capital : ℕ → Bool
is_capital b = is_between 65 90 b

abbrev pub is_size : List ℕ → Bool
is_size w = bytes_eq w (codes "byte") || (bytes_eq w (codes "word") || bytes_eq w (codes "dword"))

-- the words that are no names: registers and sizes
abbrev pub reserved_words : List (List ℕ)
reserved_words =
    register_word Byte Eax
    ∷ register_word Byte Ecx
    ∷ register_word Byte Edx
    ∷ register_word Byte Ebx
    ∷ register_word Byte Esp
    ∷ register_word Byte Ebp
    ∷ register_word Byte Esi
    ∷ register_word Byte Edi
    ∷ register_word Word Eax
    ∷ register_word Word Ecx
    ∷ register_word Word Edx
    ∷ register_word Word Ebx
    ∷ register_word Word Esp
    ∷ register_word Word Ebp
    ∷ register_word Word Esi
    ∷ register_word Word Edi
    ∷ register_word Dword Eax
    ∷ register_word Dword Ecx
    ∷ register_word Dword Edx
    ∷ register_word Dword Ebx
    ∷ register_word Dword Esp
    ∷ register_word Dword Ebp
    ∷ register_word Dword Esi
    ∷ register_word Dword Edi
    ∷ size_word Byte ∷ size_word Word ∷ size_word Dword ∷ []

abbrev pub is_reserved : List ℕ → Bool
is_reserved w = list_any (bytes_eq w) reserved_words

abbrev pub is_loop : List ℕ → Bool
is_loop w = list_any (bytes_eq w) (codes "loop" ∷ codes "loope" ∷ codes "loopne" ∷ [])

-- a conditional jump or a loop
abbrev pub is_jump : List ℕ → Bool
is_jump w = ((slice_index w 0 == 106) && not (bytes_eq w (codes "jmp"))) || is_loop w

-- what other assemblers call a constant's definition, and what a preprocessor does
abbrev pub is_constant : List ℕ → Bool
is_constant w =
    list_any (bytes_eq w) (codes "equ" ∷ codes "EQU" ∷ codes ".equ" ∷ codes ".set" ∷ codes "#define" ∷ codes "%define"
    ∷ [])

-- what else a preprocessor does
abbrev pub is_prepared : List ℕ → Bool
is_prepared w =
    list_any (bytes_eq w) (codes "#include" ∷ codes "#if" ∷ codes "#ifdef" ∷ codes "#ifndef" ∷ codes "%include"
    ∷ codes "%macro" ∷ codes ".include" ∷ codes ".macro" ∷ [])

-- what other assemblers have before a bracket: sizes, with or without capital letters
abbrev pub is_other_size : List ℕ → Bool
is_other_size w =
    list_any (bytes_eq w) (codes "BYTE" ∷ codes "WORD" ∷ codes "DWORD" ∷ codes "PTR" ∷ codes "qword" ∷ codes "QWORD"
    ∷ codes "near" ∷ codes "far" ∷ [])

-- operators of other assemblers
abbrev pub is_operator : List ℕ → Bool
is_operator w = bytes_eq w (codes "offset") || bytes_eq w (codes "ptr")

-- a register of 8 or 16 bits: no other reserved word has two letters
abbrev pub is_narrow_register : List ℕ → Bool
is_narrow_register w = (length w == 2) && is_reserved w

-- fewer than 32 bits are pushed
abbrev pub is_unpushed : List ℕ → Bool
is_unpushed w = bytes_eq w (codes "byte") || (bytes_eq w (codes "word") || is_narrow_register w)

-- a word that is no mark, no number, no text, no register and no size
abbrev pub is_free_word : List ℕ → Bool
is_free_word w = begins_name (slice_index w 0) && not (is_reserved w || bytes_eq w (codes "short"))

abbrev pub is_open : List ℕ → Bool
is_open w = bytes_eq w (codes "[")

abbrev pub is_close : List ℕ → Bool
is_close w = bytes_eq w (codes "]")
