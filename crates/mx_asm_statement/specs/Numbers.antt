-- Numbers of this many bits (that a number may be taken as signed or as unsigned is our own choice).
use Rattle.std.specs.Prelude.{ℕ, ℤ, pos, neg_ℤ, int_lt, int_le, ◌^◌, ◌-◌, ◌||◌, if◌then◌else◌, Bool, true, false}
use Rattle.std.specs.Prelude.{Option, Some, None, is_some}
use Rattle.mx_word.specs.declared.size.Size.{Size}
use Rattle.mx_word.specs.declared.size.Size.TheVariants.{Byte, Word, Dword}
use Rattle.mx_word.specs.Word.{width, modulo}
use Rattle.mx_text.specs.declared.names.Name.{Name}
use Rattle.mx_insn.specs.declared.insn.Immediate.{Immediate}
use Rattle.mx_insn.specs.Spelling.{immediate_of}
use Rattle.mx_asm_statement.specs.declared.value.Value.{Value}
use Rattle.mx_asm_statement.specs.Values.{whole_of}
use Rattle.mx_asm_statement.specs.Items.{◌>>=◌}

-- z is not one of - 2 ^ (w - 1) to 2 ^ w - 1
abbrev pub is_out_of_range : ℕ → ℤ → Bool
is_out_of_range w z = int_lt z (neg_ℤ (pos (2 ^ (w - 1)))) || int_le (pos (2 ^ w)) z

-- without a name, the low bits of a number in range; with a name a sum modulo 2 ^ 32, whatever the number. So
-- a name needs 32 bits and has no range: the number is 0 until the label's address is put in
abbrev pub low_bits : Option Name → Size → ℤ → Option ℕ
low_bits None s z = if is_out_of_range (width s) z then None else Some (modulo (width s) z)
low_bits (Some name) Byte z = None
low_bits (Some name) Word z = None
low_bits (Some name) Dword z = Some 0

abbrev pub number_in : Size → Value → Option ℕ
number_in s v = low_bits v.name s (whole_of v)

-- the value that is still to be put in: one that holds a name
abbrev pub value_waiting : Value → Option Value
value_waiting v = if is_some v.name then Some v else None

abbrev pub immediate_in : Size → Value → Option Immediate
immediate_in s v = do
  word ← number_in s v
  Some (immediate_of s word)

abbrev pub is_same : Size → Size → Bool
is_same Byte Byte = true
is_same Word Word = true
is_same Dword Dword = true
is_same _ _ = false

-- a size word may be there if it names the size that a register gives
abbrev pub names_no_other : Option Size → Size → Bool
names_no_other None s = true
names_no_other (Some other) s = is_same other s
