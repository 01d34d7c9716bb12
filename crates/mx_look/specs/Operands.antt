-- The operand of an instruction that can be in memory (80386 Programmer's Reference Manual, chapter 17). No instruction
-- has two.
use Rattle.std.specs.Prelude.{Option, Some, None}
use Rattle.mx_word.specs.declared.size.Size.{Size}
use Rattle.mx_word.specs.declared.size.Size.TheVariants.{Byte, Dword}
use Rattle.mx_insn.specs.Sizes.{size_of_immediate, size_of_operands, wide_size}
use Rattle.mx_insn.specs.declared.insn.Operand.{Operand}
use Rattle.mx_insn.specs.declared.insn.Operand.TheVariants as operand
use Rattle.mx_insn.specs.declared.insn.Operands.{Operands}
use Rattle.mx_insn.specs.declared.insn.Operands.TheVariants as operands
use Rattle.mx_insn.specs.declared.insn.Insn.{Insn}
use Rattle.mx_insn.specs.declared.insn.Insn.TheVariants as insns
use Rattle.mx_exec.specs.Accumulator.{narrow_size}

-- of two operands the one that can be in memory, and the size of both
abbrev pub outer_operand : Operands → Operand × Size
outer_operand (operands.ToRegister size to from) = (from, size)
outer_operand (operands.ToMemory size to from) = (operand.Memory to, size)
outer_operand (operands.Immediate to value) = (to, size_of_immediate value)

-- of what calculates
unfoldable pub calculated_operand : Insn → Option (Operand × Size)
calculated_operand (insns.Arithmetic op o) = Some (outer_operand o)
calculated_operand (insns.Test size o r) = Some (o, size)
calculated_operand (insns.TestImmediate o n) = Some (o, size_of_immediate n)
calculated_operand (insns.Unary op size o) = Some (o, size)
calculated_operand (insns.Product op size o) = Some (o, size)
calculated_operand (insns.Multiply size to o) = Some (o, size_of_operands size)
calculated_operand (insns.MultiplyImmediate to o by) = Some (o, wide_size by)
calculated_operand (insns.Shift op size o count) = Some (o, size)
calculated_operand (insns.DoubleShift op o r count) = Some (o, Dword)
calculated_operand (insns.BitTest op o number) = Some (o, Dword)
calculated_operand (insns.BitScan op to o) = Some (o, Dword)
calculated_operand _ = None

-- THE OPERAND, and its size. LEA reads none: it takes the address
unfoldable pub one_operand : Insn → Option (Operand × Size)
one_operand (insns.Move o) = Some (outer_operand o)
one_operand (insns.Exchange size o r) = Some (o, size)
one_operand (insns.ZeroExtend e to o) = Some (o, narrow_size e)
one_operand (insns.SignExtend e to o) = Some (o, narrow_size e)
one_operand (insns.SetCondition c o) = Some (o, Byte)
one_operand (insns.Push o) = Some (o, Dword)
one_operand (insns.JumpTo o) = Some (o, Dword)
one_operand (insns.CallTo o) = Some (o, Dword)
one_operand i = calculated_operand i
