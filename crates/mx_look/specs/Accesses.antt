-- The accesses of an instruction to memory, in the order in which they are tried (80386 Programmer's Reference Manual,
-- chapter 17; the order is our own choice), and the first that isn't inside.
use Rattle.std.specs.Prelude.{ℕ, zero, suc, Option, Some, None, if◌then◌else◌}
use Rattle.std.specs.Option.{option_or}
use Rattle.mx_word.specs.declared.size.Size.{Size}
use Rattle.mx_word.specs.declared.size.Size.TheVariants.{Dword}
use Rattle.mx_word.specs.declared.names.Register.TheVariants.{Esp, Ebp, Esi, Edi}
use Rattle.mx_word.specs.Word.{bytes_in}
use Rattle.mx_insn.specs.declared.insn.Comparison.TheVariants.{Cmps, Scas}
use Rattle.mx_insn.specs.declared.insn.Insn.{Insn}
use Rattle.mx_insn.specs.declared.insn.Insn.TheVariants as insns
use Rattle.mx_insn.specs.declared.insn.Operand.{Operand}
use Rattle.mx_insn.specs.declared.insn.Operand.TheVariants as operand
use Rattle.mx_insn.specs.declared.insn.Plain.TheVariants.{Pushad, Popad, Pushfd, Popfd, Leave}
use Rattle.mx_insn.specs.declared.insn.Transfer.TheVariants.{Movs, Stos, Lods}
use Rattle.mx_mem.specs.Operands.{address_of}
use Rattle.mx_mem.specs.Segment.{inside}
use Rattle.mx_exec.specs.declared.image.Image.{Image}
use Rattle.mx_exec.specs.Image.{dword_difference, dword_sum, register_of}
use Rattle.mx_look.specs.declared.accesses.Access.{Access}
use Rattle.mx_look.specs.Operands.{one_operand}

-- an access at an address, if it isn't inside
abbrev pub outside : ℕ → Size → Image → Option Access
outside at size m = if inside m.memory at (bytes_in size) then None else Some (record { at = at; size = size })

-- ---- the operand

abbrev pub operand_outside_by : Image → Option (Operand × Size) → Option Access
operand_outside_by m None = None
operand_outside_by m (Some (operand.Register r, size)) = None
operand_outside_by m (Some (operand.Memory a, size)) = outside (address_of a m.regs) size m

unfoldable pub operand_outside : Insn → Image → Option Access
operand_outside i m = operand_outside_by m (one_operand i)

-- ---- the stack

-- of the k dwords below a top, from above
abbrev pub pushed_outside : ℕ → ℕ → Image → Option Access
pushed_outside zero top m = None
pushed_outside (suc k) top m =
    option_or (outside (dword_difference top 4) Dword m) (pushed_outside k (dword_difference top 4) m)

-- of the k dwords from a top up
abbrev pub popped_outside : ℕ → ℕ → Image → Option Access
popped_outside zero top m = None
popped_outside (suc k) top m = option_or (outside top Dword m) (popped_outside k (dword_sum top 4) m)

abbrev pub next_pushed : Image → Option Access
next_pushed m = outside (dword_difference (register_of m Esp) 4) Dword m

unfoldable pub stack_outside : Insn → Image → Option Access
stack_outside (insns.Push o) m = next_pushed m
stack_outside (insns.PushImmediate v) m = next_pushed m
stack_outside (insns.Call displacement) m = next_pushed m
stack_outside (insns.CallTo o) m = next_pushed m
stack_outside (insns.Plain Pushfd) m = next_pushed m
stack_outside (insns.Plain Pushad) m = pushed_outside 8 (register_of m Esp) m
stack_outside (insns.Pop r) m = outside (register_of m Esp) Dword m
stack_outside (insns.Return k) m = outside (register_of m Esp) Dword m
stack_outside (insns.Plain Popfd) m = outside (register_of m Esp) Dword m
stack_outside (insns.Plain Popad) m = popped_outside 8 (register_of m Esp) m
stack_outside (insns.Plain Leave) m = outside (register_of m Ebp) Dword m
stack_outside _ m = None

-- ---- strings; of a repeat, one iteration

abbrev pub source_outside : Size → Image → Option Access
source_outside size m = outside (register_of m Esi) size m

abbrev pub target_outside : Size → Image → Option Access
target_outside size m = outside (register_of m Edi) size m

unfoldable pub string_outside : Insn → Image → Option Access
string_outside (insns.Transfer Movs size again) m = option_or (source_outside size m) (target_outside size m)
string_outside (insns.Transfer Stos size again) m = target_outside size m
string_outside (insns.Transfer Lods size again) m = source_outside size m
string_outside (insns.Compare Cmps size again) m = option_or (source_outside size m) (target_outside size m)
string_outside (insns.Compare Scas size again) m = target_outside size m
string_outside _ m = None

-- THE FIRST ACCESS THAT ISN'T INSIDE: the operand is tried before the stack
unfoldable pub first_outside : Insn → Image → Option Access
first_outside i m = option_or (operand_outside i m) (option_or (stack_outside i m) (string_outside i m))
