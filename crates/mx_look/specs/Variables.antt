-- A program's variables: symbols of its data and bss (classes are those of a.out.h; the line is our own).
use Rattle.std.specs.Prelude.{ℕ, ◌%◌, ◌==◌, ◌&&◌, ◌||◌, Bool, List, ◌++◌, codes, Option, Some, None, Result, Ok, Err, find, nat_eq}
use Rattle.std.specs.Cmp.Lexicographic.{pointwise}
use Rattle.std.specs.Fmt.{signed_decimal}
use Rattle.std.specs.Int.{w32, cast_signed}
use Rattle.mx_aout.specs.declared.program.Symbol.{Symbol}
use Rattle.mx_dis.specs.Names.{before_zero, name_text}
use Rattle.mx_exec.specs.declared.image.Image.{Image}
use Rattle.mx_insn_words.specs.Numbers.{eight_digits}
use Rattle.mx_mem.specs.Segment.{read_at}
use Rattle.mx_mem.specs.declared.segment.OutOfLimit.{OutOfLimit}
use Rattle.mx_word.specs.declared.size.Size.TheVariants.{Dword}

-- a symbol of the data (class 3) or bss (class 4)
abbrev pub is_variable : Symbol → Bool
is_variable s = (s.class % 8 == 3) || (s.class % 8 == 4)

-- that has this name
abbrev pub is_variable_named : List ℕ → Symbol → Bool
is_variable_named name s = is_variable s && pointwise nat_eq (before_zero s.name) name

-- THE VARIABLE of a name: the first
abbrev pub variable_named : List ℕ → List Symbol → Option Symbol
variable_named name symbols = find (is_variable_named name) symbols

abbrev pub value_of_read : Result ℕ OutOfLimit → Option ℕ
value_of_read (Ok v) = Some v
value_of_read (Err e) = None

-- THE DWORD of a variable in a process's memory, if it is inside
abbrev pub variable_value : Image → Symbol → Option ℕ
variable_value m s = value_of_read (read_at m.memory s.value Dword)

-- THE LINE of a variable that holds a dword: its address and name, and the dword, hexadecimal and as a signed number
unfoldable pub variable_line : Symbol → ℕ → List ℕ
variable_line s v =
    eight_digits s.value ++ codes " " ++ name_text s.name ++ codes " " ++ eight_digits v
    ++ codes " " ++ signed_decimal (cast_signed w32 v) ++ codes "\n"
