-- The top of a process's stack (our own).
use Rattle.std.specs.Prelude.{ℕ, zero, suc, ◌-◌, ◌==◌, ◌&&◌, ◌||◌, Bool, true, false, List, [], ◌++◌, codes, Option, Some, None, Result, Ok, Err, if◌then◌else◌, nat_le}
use Rattle.mx_aout.specs.declared.program.Symbol.{Symbol}
use Rattle.mx_dis.specs.declared.part.Part.{Part}
use Rattle.mx_dis.specs.declared.part.Part.TheVariants.{Instruction}
use Rattle.mx_exec.specs.declared.image.Image.{Image}
use Rattle.mx_exec.specs.Image.{dword_sum, register_of}
use Rattle.mx_insn.specs.declared.insn.Insn.{Insn}
use Rattle.mx_insn.specs.declared.insn.Insn.TheVariants.{Call, CallTo}
use Rattle.mx_insn_words.specs.Numbers.{eight_digits}
use Rattle.mx_mem.specs.Segment.{read_at}
use Rattle.mx_mem.specs.declared.segment.OutOfLimit.{OutOfLimit}
use Rattle.mx_word.specs.declared.names.Register.TheVariants.{Esp}
use Rattle.mx_word.specs.declared.size.Size.TheVariants.{Dword}
use Rattle.mx_look.specs.Code.{code_line, code_part}

-- ---- addresses that follow a call

abbrev pub is_call : Insn → Bool
is_call (Call far) = true
is_call (CallTo operand) = true
is_call _ = false

abbrev pub is_call_of : ℕ → Option Part → Bool
is_call_of size (Some (Instruction i n)) = is_call i && (n == size)
is_call_of size _ = false

-- a call of this size ends at an address
abbrev pub call_ends : Image → ℕ → ℕ → Bool
call_ends m at size = nat_le size at && is_call_of size (code_part m (at - size))

-- a call of less than this size does
abbrev pub shorter_call_ends : Image → ℕ → ℕ → Bool
shorter_call_ends m at zero = false
shorter_call_ends m at (suc size) = shorter_call_ends m at size || call_ends m at size

-- an instruction has at most fifteen bytes
abbrev pub follows_call : Image → ℕ → Bool
follows_call m at = shorter_call_ends m at 16

-- ---- rows

-- the dword; if it is an address that follows a call, the line of the code there
abbrev pub dword_text : List Symbol → Image → ℕ → List ℕ
dword_text symbols m v = if follows_call m v then code_line symbols m v else eight_digits v ++ codes "\n"

-- a row: the address, and the dword there
unfoldable pub stack_row : List Symbol → Image → ℕ → ℕ → List ℕ
stack_row symbols m at v = eight_digits at ++ codes " " ++ dword_text symbols m v

-- a row and those after it, if the dword is inside
abbrev pub and_rows : List Symbol → Image → ℕ → Result ℕ OutOfLimit → List ℕ → List ℕ
and_rows symbols m at (Ok v) rows = stack_row symbols m at v ++ rows
and_rows symbols m at (Err e) rows = []

-- the rows of this many dwords from an address on, up to where memory ends
abbrev pub stack_rows : ℕ → List Symbol → Image → ℕ → List ℕ
stack_rows zero symbols m at = []
stack_rows (suc n) symbols m at =
    and_rows symbols m at (read_at m.memory at Dword) (stack_rows n symbols m (dword_sum at 4))

-- THE STACK, from ESP on
abbrev pub stack_text : ℕ → List Symbol → Image → List ℕ
stack_text n symbols m = stack_rows n symbols m (register_of m Esp)
