-- The numbers of names in an instruction's fields, and numbers as its bytes.
use Rattle.std.specs.Prelude.{ℕ, ◌%◌, ◌==◌, Bool, true, false, not, ◌&&◌, List, [], ◌∷◌}
use Rattle.mx_word.specs.Word.{bytes_of}
use Rattle.mx_word.specs.declared.size.Size.{Size}
use Rattle.mx_word.specs.declared.size.Size.TheVariants.{Byte, Word, Dword}
use Rattle.mx_word.specs.declared.names.Arithmetic.{Arithmetic}
use Rattle.mx_word.specs.declared.names.Arithmetic.TheVariants.{Add, Or, Adc, Sbb, And, Sub, Xor, Cmp}
use Rattle.mx_insn.specs.declared.insn.Scale.{Scale}
use Rattle.mx_insn.specs.declared.insn.Scale.TheVariants.{One, Two, Four, Eight}
use Rattle.mx_insn.specs.Spelling.{sign_extended}
use Rattle.mx_encode.specs.declared.fields.Number.{Number}
use Rattle.mx_encode.specs.declared.fields.Number.TheVariants as numbers

-- ---- fields (manual, 17.2.1 and appendix A)

abbrev pub scale_number : Scale → ℕ
scale_number One = 0
scale_number Two = 1
scale_number Four = 2
scale_number Eight = 3

abbrev pub arithmetic_number : Arithmetic → ℕ
arithmetic_number Add = 0
arithmetic_number Or = 1
arithmetic_number Adc = 2
arithmetic_number Sbb = 3
arithmetic_number And = 4
arithmetic_number Sub = 5
arithmetic_number Xor = 6
arithmetic_number Cmp = 7

-- words have the prefix 66
abbrev pub is_word : Size → Bool
is_word Byte = false
is_word Word = true
is_word Dword = false

-- ---- numbers

-- a number of w bits is a byte with its sign extended
abbrev pub is_short : ℕ → ℕ → Bool
is_short w n = sign_extended w (n % 256) == n

-- and isn't marked wide
abbrev pub shortens : ℕ → ℕ → Bool → Bool
shortens w n long = not long && is_short w n

-- the low byte, if the rest is its sign
abbrev pub short : ℕ → Number
short n = numbers.Byte (n % 256)

abbrev pub number_bytes : Number → List ℕ
number_bytes numbers.Nothing = []
number_bytes (numbers.Byte n) = n ∷ []
number_bytes (numbers.Word n) = bytes_of 2 n
number_bytes (numbers.Dword n) = bytes_of 4 n
