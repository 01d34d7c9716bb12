-- WHAT AN INSTRUCTION DOES WITH EAX (80386 Programmer's Reference Manual, chapter 17: the operands of each instruction, and
-- the registers that it has without naming them; 2.3.1: AL, AH and AX are parts of EAX). It overwrites EAX if it writes
-- all 32 bits and they don't come from EAX. Else it is taken to read it, if it names EAX or a part of it, or has it
-- without naming it: so who is said not to read it doesn't.
use Rattle.std.specs.Prelude.{◌&&◌, ◌||◌, not, Bool, true, false, if◌then◌else◌, Option, Some, None}
use Rattle.mx_word.specs.declared.size.Size.{Size}
use Rattle.mx_word.specs.declared.size.Size.TheVariants as sizes
use Rattle.mx_word.specs.declared.names.Arithmetic.{Arithmetic}
use Rattle.mx_word.specs.declared.names.Arithmetic.TheVariants.{Sub, Xor}
use Rattle.mx_word.specs.declared.names.Register.{Register}
use Rattle.mx_word.specs.declared.names.Register.TheVariants.{Eax, Esp}
use Rattle.mx_insn.specs.Sizes.{size_of_immediate, size_of_operands}
use Rattle.mx_insn.specs.declared.insn.Comparison.TheVariants.{Scas}
use Rattle.mx_insn.specs.declared.insn.Extension.{Extension}
use Rattle.mx_insn.specs.declared.insn.Extension.TheVariants.{ByteToWord}
use Rattle.mx_insn.specs.declared.insn.Index.{Index}
use Rattle.mx_insn.specs.declared.insn.Insn.{Insn}
use Rattle.mx_insn.specs.declared.insn.Insn.TheVariants as insns
use Rattle.mx_insn.specs.declared.insn.Memory.{Memory}
use Rattle.mx_insn.specs.declared.insn.Operand.{Operand}
use Rattle.mx_insn.specs.declared.insn.Operand.TheVariants as operand
use Rattle.mx_insn.specs.declared.insn.Operands.{Operands}
use Rattle.mx_insn.specs.declared.insn.Operands.TheVariants as operands
use Rattle.mx_insn.specs.declared.insn.Plain.{Plain}
use Rattle.mx_insn.specs.declared.insn.Plain.TheVariants.{Pushad, Popad, Sahf, Lahf}
use Rattle.mx_insn.specs.declared.insn.Transfer.TheVariants.{Stos, Lods}
use Rattle.mx_look.specs.Operands.{one_operand}
use Rattle.mx_why.specs.declared.uses.Use.{Use}
use Rattle.mx_why.specs.declared.uses.Use.TheVariants.{Reads, Overwrites, Neither}

abbrev pub is_eax : Register → Bool
is_eax Eax = true
is_eax _ = false

abbrev pub is_dword : Size → Bool
is_dword sizes.Dword = true
is_dword _ = false

-- AH is the register of a byte that has the number of ESP
abbrev pub is_high : Size → Register → Bool
is_high sizes.Byte Esp = true
is_high _ _ = false

-- EAX or a part of it
abbrev pub is_part : Size → Register → Bool
is_part size r = is_eax r || is_high size r

-- ---- what an instruction names

abbrev pub is_base : Option Register → Bool
is_base None = false
is_base (Some r) = is_eax r

abbrev pub is_index : Option Index → Bool
is_index None = false
is_index (Some x) = is_eax x.register

-- an address is calculated with it
abbrev pub addresses : Memory → Bool
addresses a = is_base a.base || is_index a.index

abbrev pub operand_names : Size → Operand → Bool
operand_names size (operand.Register r) = is_part size r
operand_names size (operand.Memory a) = addresses a

abbrev pub names_by : Option (Operand × Size) → Bool
names_by None = false
names_by (Some (o, size)) = operand_names size o

-- of two operands the one that can't be in memory
abbrev pub inner_names : Operands → Bool
inner_names (operands.ToRegister size to from) = is_part size to
inner_names (operands.ToMemory size to from) = is_part size from
inner_names (operands.Immediate to value) = false

-- a register besides the operand that can be in memory
unfoldable pub register_names : Insn → Bool
register_names (insns.Arithmetic op o) = inner_names o
register_names (insns.Move o) = inner_names o
register_names (insns.Test size o r) = is_part size r
register_names (insns.Exchange size o r) = is_part size r
register_names (insns.LoadAddress size to a) = is_eax to || addresses a
register_names (insns.Multiply size to from) = is_eax to
register_names (insns.MultiplyImmediate to from by) = is_eax to
register_names (insns.BitScan op to from) = is_eax to
register_names (insns.ZeroExtend e to from) = is_eax to
register_names (insns.SignExtend e to from) = is_eax to
register_names (insns.Pop to) = is_eax to
register_names (insns.DoubleShift op o r count) = is_eax r
register_names (insns.BitTestRegister op r number) = is_eax r || is_eax number
register_names _ = false

-- ---- what it has without naming it

abbrev pub plain_has : Plain → Bool
plain_has Pushad = true
plain_has Popad = true
plain_has Sahf = true
plain_has Lahf = true
plain_has _ = false

-- a trap has in EAX whom it calls
unfoldable pub has_eax : Insn → Bool
has_eax (insns.Product op size o) = true
has_eax (insns.ExtendAccumulator size) = true
has_eax (insns.SpreadSign size) = true
has_eax (insns.Interrupt n) = true
has_eax (insns.In size port) = true
has_eax (insns.Out size port) = true
has_eax (insns.Transfer Stos size again) = true
has_eax (insns.Transfer Lods size again) = true
has_eax (insns.Compare Scas size again) = true
has_eax (insns.Plain op) = plain_has op
has_eax _ = false

-- ---- what it overwrites

abbrev pub is_whole : Operand → Bool
is_whole (operand.Register r) = is_eax r
is_whole (operand.Memory a) = false

abbrev pub moves_over : Operands → Bool
moves_over (operands.ToRegister size to from) = is_dword size && is_eax to && not (operand_names size from)
moves_over (operands.ToMemory size to from) = false
moves_over (operands.Immediate to value) = is_dword (size_of_immediate value) && is_whole to

-- a register less itself, or other than itself, is 0 whatever it was
abbrev pub clears : Arithmetic → Bool
clears Sub = true
clears Xor = true
clears _ = false

abbrev pub is_itself : Operands → Bool
is_itself (operands.ToRegister size to from) = is_dword size && is_eax to && is_whole from
is_itself _ = false

abbrev pub is_wide : Extension → Bool
is_wide ByteToWord = false
is_wide _ = true

abbrev pub extends_over : Extension → Register → Operand → Bool
extends_over e to from = is_wide e && is_eax to && not (operand_names sizes.Byte from)

abbrev pub plain_overwrites : Plain → Bool
plain_overwrites Popad = true
plain_overwrites _ = false

unfoldable pub overwrites_eax : Insn → Bool
overwrites_eax (insns.Move o) = moves_over o
overwrites_eax (insns.Arithmetic op o) = clears op && is_itself o
overwrites_eax (insns.LoadAddress size to a) = is_dword (size_of_operands size) && is_eax to && not (addresses a)
overwrites_eax (insns.ZeroExtend e to from) = extends_over e to from
overwrites_eax (insns.SignExtend e to from) = extends_over e to from
overwrites_eax (insns.Pop to) = is_eax to
overwrites_eax (insns.Plain op) = plain_overwrites op
overwrites_eax _ = false

-- WHAT IT DOES WITH EAX
abbrev pub use_of_eax : Insn → Use
use_of_eax i =
    if overwrites_eax i then Overwrites else
    if names_by (one_operand i) || register_names i || has_eax i then Reads else
    Neither
