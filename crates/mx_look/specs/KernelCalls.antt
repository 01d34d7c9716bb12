-- Kernel calls, as a trace has them (our own), by the table of kernel calls. A type is that of a call only if the rules
-- have it.
use Rattle.std.specs.Prelude.{ℕ, ◌+◌, ◌-◌, ◌==◌, ◌&&◌, nat_le, if◌then◌else◌, List, [], ◌++◌, codes, take, drop, position, Option, Some, None, slice_index}
use Rattle.std.specs.Fmt.{decimal}
use Rattle.std.specs.Option.{option_map}
use Rattle.std.specs.Str.{bytes_eq}
use Rattle.mx_kcall.specs.Rows.{calls, first_call, name_of, reply_count, row_of, row_under}
use Rattle.mx_kcall.specs.declared.rows.CallRow.{CallRow}
use Rattle.mx_proc.specs.declared.windows.Rules.{Rules}
use Rattle.mx_look.specs.declared.glance.CpuGlance.{CpuGlance}
use Rattle.mx_look.specs.declared.glance.Glance.{Glance}
use Rattle.mx_look.specs.Calls.{asks_kernel}
use Rattle.mx_look.specs.Numbers.{result_text, spaced_numbers}
use Rattle.mx_look.specs.Refusals.{request_reason}

-- the type comes after the source, and then the words
abbrev pub words_from : ℕ → List ℕ → List ℕ
words_from count message = spaced_numbers (take count (drop 2 message))

-- ---- the calls that the rules have, and their names

abbrev pub name_by : Option CallRow → List ℕ
name_by None = []
name_by (Some row) = name_of row

-- its name, or nothing
unfoldable pub request_name : Rules → ℕ → List ℕ
request_name rules kind = name_by (row_under rules kind)

-- the type of the call of this name, whichever rules have it
abbrev pub request_type : List ℕ → Option ℕ
request_type name = option_map (λ n. first_call + n) (position (λ row. bytes_eq name (name_of row)) calls)

-- ---- what is asked

-- the call whose type has these decimal digits, read in hexadecimal: 600 and 609 for 600 and 609 hex
abbrev pub row_by_digits : Rules → ℕ → Option CallRow
row_by_digits rules kind =
    if nat_le 600 kind && nat_le kind 609 then row_under rules (kind - 600 + first_call) else None

abbrev pub hint : ℕ → Option CallRow → List ℕ
hint kind None = []
hint kind (Some row) = codes ": 0x" ++ decimal kind ++ codes " is " ++ name_of row

-- a type that no call has
unfoldable pub other_type : Rules → ℕ → List ℕ
other_type rules kind = codes ", type " ++ decimal kind ++ hint kind (row_by_digits rules kind)

abbrev pub row_request : Rules → Option CallRow → ℕ → List ℕ → List ℕ
row_request rules None kind message = other_type rules kind
row_request rules (Some row) kind message = codes ", " ++ name_of row ++ words_from row.words message

unfoldable pub request_words : Rules → List ℕ → List ℕ
request_words rules message = let kind = slice_index message 1 in row_request rules (row_under rules kind) kind message

abbrev pub request_text_by : Rules → CpuGlance → Option (List ℕ) → List ℕ
request_text_by rules h None = []
request_text_by rules h (Some message) = if asks_kernel h then request_words rules message else []

-- A REQUEST, of SENDREC to SYSTEM only, with the words inside
unfoldable pub request_text : Rules → CpuGlance → List ℕ
request_text rules h = request_text_by rules h h.image.words

-- ---- what is answered

-- how many words the reply has to a request with this first word
abbrev pub answer_count : Option CallRow → ℕ → ℕ
answer_count None first = 0
answer_count (Some row) first = reply_count row.reply first

-- AN ANSWER: the result, which is the type of the reply; of OK the reply's words, and else why
unfoldable pub answer_text : Glance → List ℕ → List ℕ → List ℕ
answer_text g request reply =
    codes "answer " ++ result_text (slice_index reply 1)
    ++ (if slice_index reply 1 == 0
    then words_from (answer_count (row_of (slice_index request 1)) (slice_index request 2)) reply
    else request_reason g request (slice_index reply 1))
