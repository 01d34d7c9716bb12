-- WHAT AN INSTRUCTION DOES WITH A DWORD OF MEMORY (80386 Programmer's Reference Manual, chapter 17: its operand in memory,
-- the stack of PUSH, POP, CALL, RET and LEAVE, the strings). It overwrites the dword if it is a MOV of a dword there. Else
-- it is taken to read it, if it reaches within 4 bytes of it, or is one of a string or of all registers, or a trap whose
-- message of 36 bytes has it: so who is said not to read it doesn't.
use Rattle.std.specs.Prelude.{ℕ, ◌+◌, ◌==◌, ◌&&◌, ◌||◌, nat_lt, Bool, true, false, if◌then◌else◌, Option, Some, None}
use Rattle.mx_word.specs.declared.size.Size.{Size}
use Rattle.mx_word.specs.declared.names.Register.TheVariants.{Ebx, Esp, Ebp}
use Rattle.mx_insn.specs.Sizes.{size_of_immediate}
use Rattle.mx_insn.specs.declared.insn.Insn.{Insn}
use Rattle.mx_insn.specs.declared.insn.Insn.TheVariants as insns
use Rattle.mx_insn.specs.declared.insn.Memory.{Memory}
use Rattle.mx_insn.specs.declared.insn.Operand.{Operand}
use Rattle.mx_insn.specs.declared.insn.Operand.TheVariants as operand
use Rattle.mx_insn.specs.declared.insn.Operands.{Operands}
use Rattle.mx_insn.specs.declared.insn.Operands.TheVariants as operands
use Rattle.mx_insn.specs.declared.insn.Plain.{Plain}
use Rattle.mx_insn.specs.declared.insn.Plain.TheVariants.{Pushad, Popad, Pushfd, Popfd, Leave}
use Rattle.mx_mem.specs.Operands.{address_of}
use Rattle.mx_exec.specs.declared.image.Image.{Image}
use Rattle.mx_exec.specs.Image.{dword_difference, register_of}
use Rattle.mx_look.specs.Operands.{one_operand}
use Rattle.mx_why.specs.declared.uses.Use.{Use}
use Rattle.mx_why.specs.declared.uses.Use.TheVariants.{Reads, Overwrites, Neither}
use Rattle.mx_why.specs.Uses.{is_dword}

-- so many bytes from an address on have a byte of the dword at another
abbrev pub meets : ℕ → ℕ → ℕ → Bool
meets cell count at = nat_lt at (cell + 4) && nat_lt cell (at + count)

abbrev pub is_there : ℕ → Image → Memory → Bool
is_there cell m a = address_of a m.regs == cell

abbrev pub operand_is_there : ℕ → Image → Operand → Bool
operand_is_there cell m (operand.Register r) = false
operand_is_there cell m (operand.Memory a) = is_there cell m a

abbrev pub moves_there : ℕ → Image → Operands → Bool
moves_there cell m (operands.ToRegister size to from) = false
moves_there cell m (operands.ToMemory size to from) = is_dword size && is_there cell m to
moves_there cell m (operands.Immediate to value) = is_dword (size_of_immediate value) && operand_is_there cell m to

unfoldable pub overwrites_cell : ℕ → Insn → Image → Bool
overwrites_cell cell (insns.Move o) m = moves_there cell m o
overwrites_cell cell _ m = false

abbrev pub operand_meets : ℕ → Image → Option (Operand × Size) → Bool
operand_meets cell m None = false
operand_meets cell m (Some (operand.Register r, size)) = false
operand_meets cell m (Some (operand.Memory a, size)) = meets cell 4 (address_of a m.regs)

-- the dword below the stack's top, the one on top, that of LEAVE
abbrev pub below_meets : ℕ → Image → Bool
below_meets cell m = meets cell 4 (dword_difference (register_of m Esp) 4)

abbrev pub top_meets : ℕ → Image → Bool
top_meets cell m = meets cell 4 (register_of m Esp)

abbrev pub plain_meets : ℕ → Image → Plain → Bool
plain_meets cell m Pushfd = below_meets cell m
plain_meets cell m Popfd = top_meets cell m
plain_meets cell m Leave = meets cell 4 (register_of m Ebp)
plain_meets cell m Pushad = true
plain_meets cell m Popad = true
plain_meets cell m _ = false

-- besides its operand
unfoldable pub other_meets : ℕ → Insn → Image → Bool
other_meets cell (insns.Push o) m = below_meets cell m
other_meets cell (insns.PushImmediate v) m = below_meets cell m
other_meets cell (insns.Call displacement) m = below_meets cell m
other_meets cell (insns.CallTo o) m = below_meets cell m
other_meets cell (insns.Pop r) m = top_meets cell m
other_meets cell (insns.Return k) m = top_meets cell m
other_meets cell (insns.Transfer op size again) m = true
other_meets cell (insns.Compare op size again) m = true
other_meets cell (insns.Interrupt n) m = meets cell 36 (register_of m Ebx)
other_meets cell (insns.Plain op) m = plain_meets cell m op
other_meets cell _ m = false

-- WHAT IT DOES with the dword at an address
abbrev pub use_of_cell : ℕ → Insn → Image → Use
use_of_cell cell i m =
    if overwrites_cell cell i m then Overwrites else
    if operand_meets cell m (one_operand i) || other_meets cell i m then Reads else
    Neither
