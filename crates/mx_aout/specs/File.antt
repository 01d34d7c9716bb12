-- Which bytes are a file of which program (a.out.h, struct exec and struct nlist).
use Rattle.std.specs.Prelude.{◌≡◌, ℕ, zero, suc, ◌+◌, ◌/◌, ◌%◌, Bool, not, ◌&&◌, ◌||◌, ◌==◌, nat_lt, if◌then◌else◌}
use Rattle.std.specs.Prelude.{List, [], ◌∷◌, ◌++◌, length, take, drop, slice_index, Option, Some, None, Result, Ok, Err}
use Rattle.std.specs.Prelude.{bit_and}
use Rattle.mx_word.specs.Word.{value_at}
use Rattle.mx_aout.specs.Limits.{rounded_to_pages, used_of}
use Rattle.mx_aout.specs.declared.program.Symbol.{Symbol}
use Rattle.mx_aout.specs.declared.program.Program.{Program}
use Rattle.mx_aout.specs.declared.program.FileError.{FileError}
use Rattle.mx_aout.specs.declared.program.FileError.TheVariants.{Truncated, BadMagic, BadCpu, BadFlags, BadHeader}
use Rattle.mx_aout.specs.declared.program.FileError.TheVariants.{NoTotal, TooLarge, BadSymbols, NoMemory}
use Rattle.mx_aout.specs.declared.file.Header.{Header}

-- ---- the header: a byte each of magic (2), flags, CPU and header length at 0 to 4, then dwords from 8 on

-- the sizes that the relocations take; the short form of 32 bytes has none (a_trsize, a_drsize)
abbrev pub relocations_at : List ℕ → ℕ → ℕ
relocations_at b at = if slice_index b 4 == 48 then value_at b at 4 else 0

abbrev pub header_of : List ℕ → Header
header_of b = record {
  length = slice_index b 4;
  sep = slice_index b 2 / 32 % 2 == 1;
  text = value_at b 8 4;
  init = value_at b 12 4;
  bss = value_at b 16 4;
  entry = value_at b 20 4;
  total = value_at b 24 4;
  symbols = value_at b 28 4;
  text_relocations = relocations_at b 32;
  init_relocations = relocations_at b 36;
}

-- after the header come text, data, relocations and symbols
abbrev pub init_at : Header → ℕ
init_at h = h.length + h.text

abbrev pub symbols_at : Header → ℕ
symbols_at h = h.length + h.text + h.init + h.text_relocations + h.init_relocations

-- ---- refusals

-- all that the header names
abbrev pub length_of_parts : Header → ℕ
length_of_parts h = symbols_at h + h.symbols

-- the parts are too large
abbrev pub is_too_large : Header → Bool
is_too_large h =
    nat_lt 1048576 h.text || nat_lt 262144 h.symbols || nat_lt 4194304 (rounded_to_pages h.total)
    || nat_lt (rounded_to_pages h.total) (used_of h.sep h.text h.init h.bss)

-- the reasons to refuse a file, in order, and whether each holds: those of the header's form, then those of
-- the sizes in it
abbrev pub reasons_of_sizes : Header → ℕ → List (Bool × FileError)
reasons_of_sizes h length_of_file =
    (h.total == 0, NoTotal) ∷
    (is_too_large h, TooLarge) ∷
    (not (h.symbols % 16 == 0), BadSymbols) ∷
    (nat_lt length_of_file (length_of_parts h), Truncated) ∷
    []

abbrev pub size_reasons : List ℕ → List (Bool × FileError)
size_reasons b = reasons_of_sizes (header_of b) (length b)

abbrev pub form_reasons : List ℕ → List (Bool × FileError)
form_reasons b =
    (nat_lt (length b) 32, Truncated) ∷
    (not (slice_index b 0 == 1 && slice_index b 1 == 3), BadMagic) ∷
    (not (slice_index b 3 == 0x10), BadCpu) ∷
    -- a flag other than A_NSYM 04, A_EXEC 10 and A_SEP 20
    (not (bit_and (slice_index b 2) 0xCB == 0), BadFlags) ∷
    (not (slice_index b 4 == 32 || slice_index b 4 == 48), BadHeader) ∷
    (slice_index b 4 == 48 && nat_lt (length b) 48, Truncated) ∷
    []

abbrev pub file_reasons : List ℕ → List (Bool × FileError)
file_reasons b = form_reasons b ++ size_reasons b

abbrev pub first_file_error : List (Bool × FileError) → Option FileError
first_file_error [] = None
first_file_error (r ∷ rest) = if r.0 then Some r.1 else first_file_error rest

-- the first reason that holds
abbrev pub refusal_of : List ℕ → Option FileError
refusal_of b = first_file_error (file_reasons b)

-- ---- how many bytes of a file matter, by its first 48

abbrev pub asked_unless : Option FileError → ℕ → ℕ
asked_unless (Some e) n = 48
asked_unless None n = n

-- its parts; at most these 48 if it is refused for its header, however long it is
abbrev pub length_asked : List ℕ → ℕ
length_asked front =
    asked_unless (first_file_error (form_reasons front))
    (asked_unless (first_file_error (reasons_of_sizes (header_of front) (length_of_parts (header_of front))))
    (length_of_parts (header_of front)))

-- ---- the program

-- the k bytes from a place on
abbrev pub bytes_at : List ℕ → ℕ → ℕ → List ℕ
bytes_at b at zero = []
bytes_at b at (suc k) = slice_index b at ∷ bytes_at b (suc at) k

-- a symbol: name of 8 bytes, value, class, auxiliary count, type
abbrev pub symbol_at : List ℕ → ℕ → Symbol
symbol_at b at = record {
  name = bytes_at b at 8;
  value = value_at b (at + 8) 4;
  class = slice_index b (at + 12);
  auxiliary = slice_index b (at + 13);
  kind = value_at b (at + 14) 2;
}

-- the first k symbols from a place on
abbrev pub symbols_from : List ℕ → ℕ → ℕ → List Symbol
symbols_from b at zero = []
symbols_from b at (suc k) = symbol_at b at ∷ symbols_from b (at + 16) k

-- no reason to refuse holds, and the program is what the bytes have
pub record FileIs (b : List ℕ) (p : Program) : Type 0 where
  pub accepted : refusal_of b ≡ None
  pub sep : p.sep ≡ (header_of b).sep
  pub entry : p.entry ≡ (header_of b).entry
  pub total : p.total ≡ (header_of b).total
  pub text : p.text ≡ take (header_of b).text (drop (header_of b).length b)
  pub init : p.init ≡ take (header_of b).init (drop (init_at (header_of b)) b)
  pub bss : p.bss ≡ (header_of b).bss
  pub symbols : p.symbols ≡ symbols_from b (symbols_at (header_of b)) ((header_of b).symbols / 16)

-- what the reader answers: the first reason that holds, or the program, unless memory runs out
abbrev pub ReadsFile : Option FileError → List ℕ → Result Program FileError → Type 0
ReadsFile (Some e) b r = r ≡ Err e
ReadsFile None b (Ok p) = FileIs b p
ReadsFile None b (Err e) = e ≡ NoMemory
