-- The 36 bytes of a message: source, type, then the words p0 to p6.
use Rattle.std.specs.Prelude.{ℕ, ◌++◌, List, drop, replicate}
use Rattle.mx_word.specs.Word.{value_at, bytes_of}

-- bytes with the source written by the kernel
abbrev pub with_source : ℕ → List ℕ → List ℕ
with_source source bytes = bytes_of 4 source ++ drop 4 bytes

-- the type: the bytes 4 to 7
abbrev pub type_of : List ℕ → ℕ
type_of bytes = value_at (drop 4 bytes) 0 4

-- a notification (our choice): type 4096, p0 the uptime, p1 the interrupt lines, else zeros
abbrev pub notification : ℕ → ℕ → ℕ → List ℕ
notification source uptime lines =
    bytes_of 4 source ++ bytes_of 4 4096 ++ bytes_of 4 uptime ++ bytes_of 4 lines ++ replicate 20 0
