-- The bytes that are written of a program: the short form of its file (a.out.h, struct exec and struct nlist).
use Rattle.std.specs.Prelude.{ℕ, ◌*◌, Bool, List, [], ◌∷◌, ◌++◌, length, if◌then◌else◌}
use Rattle.std.specs.List.{flat_map}
use Rattle.mx_word.specs.Word.{bytes_of}
use Rattle.mx_aout.specs.declared.program.Symbol.{Symbol}
use Rattle.mx_aout.specs.declared.program.Program.{Program}

-- A_EXEC, and A_SEP if the text is separate
abbrev pub flags_of : Bool → ℕ
flags_of sep = if sep then 0x30 else 0x10

-- magic (2), flags, CPU, header length, the unused byte and the version (2), then the sizes and the entry
abbrev pub short_header : Program → List ℕ
short_header p =
    1 ∷ 3 ∷ flags_of p.sep ∷ 0x10 ∷ 32 ∷ 0 ∷ 0 ∷ 0 ∷
    flat_map (bytes_of 4) (length p.text ∷ length p.init ∷ p.bss ∷ p.entry ∷ p.total ∷ length p.symbols * 16 ∷ [])

-- name, value, class, auxiliary count, type
abbrev pub symbol_bytes : Symbol → List ℕ
symbol_bytes s = s.name ++ bytes_of 4 s.value ++ s.class ∷ s.auxiliary ∷ bytes_of 2 s.kind

-- header, text, data and symbols, and nothing after them
abbrev pub short_file : Program → List ℕ
short_file p = short_header p ++ p.text ++ p.init ++ flat_map symbol_bytes p.symbols
