-- What a configuration's services may do, in words (our own). The names of traps and of kernel calls are those of a
-- trace.
use Rattle.std.specs.Prelude.{ℕ, ◌+◌, ◌==◌, if◌then◌else◌, List, [], ◌∷◌, ◌++◌, codes, length, Option, Some, None, slice_get}
use Rattle.std.specs.List.{flat_map, range_with_len}
use Rattle.std.specs.Fmt.{decimal}
use Rattle.mx_word.specs.Bits.{has_bit}
use Rattle.mx_machine.specs.declared.config.Config.{Config}
use Rattle.mx_machine.specs.declared.config.ServiceLine.{ServiceLine}
use Rattle.mx_proc.specs.declared.process.Terms.{Terms}
use Rattle.mx_proc.specs.declared.windows.Rules.{Rules}
use Rattle.mx_print_report.specs.Words.{name_bytes}
use Rattle.mx_look.specs.Trace.{call_text}
use Rattle.mx_kcall.specs.Rows.{calls, is_there, name_of}
use Rattle.mx_kcall.specs.declared.rows.CallRow.{CallRow}

-- a word after a space, if a mask has a bit
abbrev pub word_if : ℕ → ℕ → List ℕ → List ℕ
word_if mask bit word = if has_bit mask bit then 32 ∷ word else []

-- words, or that there are none
abbrev pub or_none : List ℕ → List ℕ
or_none [] = codes " none"
or_none (x ∷ xs) = x ∷ xs

-- a text, with the word that there are none if nothing was appended since it had that length
abbrev pub none_since : ℕ → List ℕ → List ℕ
none_since before text = if length text == before then text ++ codes " none" else text

-- ---- what a mask allows

-- TRAPS: bit n allows trap n, from 1 to 4
unfoldable pub trap_if : ℕ → ℕ → List ℕ
trap_if traps n = word_if traps n (call_text n)

abbrev pub trap_words : ℕ → List ℕ
trap_words traps = flat_map (trap_if traps) (range_with_len 1 4)

-- KERNEL CALLS: bit n allows that of row n, if the rules have it
abbrev pub row_if : Rules → ℕ → ℕ → Option CallRow → List ℕ
row_if rules mask n None = []
row_if rules mask n (Some row) = if is_there rules row then word_if mask n (name_of row) else []

unfoldable pub call_if : Rules → ℕ → ℕ → List ℕ
call_if rules mask n = row_if rules mask n (slice_get calls n)

abbrev pub call_words : Rules → ℕ → List ℕ
call_words rules mask = flat_map (call_if rules mask) (range_with_len 0 (length calls))

-- RECEIVERS: bit s allows to send to slot s, which has the name of its service
unfoldable pub receiver_if : ℕ → ℕ → List ℕ → List ℕ
receiver_if sends slot name = word_if sends slot (name_bytes name)

-- of these lines the first is that of this slot
abbrev pub receiver_words : ℕ → ℕ → List ServiceLine → List ℕ
receiver_words sends slot [] = []
receiver_words sends slot (l ∷ ls) = receiver_if sends slot l.name.bytes ++ receiver_words sends (slot + 1) ls

-- ---- a service's line

unfoldable pub head_words : ℕ → ServiceLine → List ℕ
head_words slot l = decimal slot ++ codes " " ++ name_bytes l.name.bytes

unfoldable pub mask_words : Config → ServiceLine → List ℕ
mask_words c l =
    codes ": traps" ++ or_none (trap_words l.terms.masks.traps)
    ++ codes "; sends to" ++ or_none (receiver_words l.terms.masks.sends 0 c.lines)
    ++ codes "; kernel calls" ++ or_none (call_words c.rules l.terms.masks.calls)

unfoldable pub term_words : Terms → List ℕ
term_words t =
    codes "; level " ++ decimal t.level ++ codes ", best " ++ decimal t.best
    ++ codes "; quantum " ++ decimal t.quantum ++ codes "; restarts " ++ decimal t.restarts

-- A SERVICE'S LINE
unfoldable pub service_line : Config → ℕ → ServiceLine → List ℕ
service_line c slot l = head_words slot l ++ mask_words c l ++ term_words l.terms ++ codes "\n"

-- of these lines the first is that of this slot
abbrev pub service_lines : Config → ℕ → List ServiceLine → List ℕ
service_lines c slot [] = []
service_lines c slot (l ∷ ls) = service_line c slot l ++ service_lines c (slot + 1) ls

-- ALL LINES, in slot order
abbrev pub services_text : Config → List ℕ
services_text c = service_lines c 0 c.lines
