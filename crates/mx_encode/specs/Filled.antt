-- Numbers put into an instruction in place of others: a dword as its immediate, a displacement in its memory, how far
-- it jumps. What has no such number stays as it is.
use Rattle.std.specs.Prelude.{ℕ, Bool, true, ◌||◌}
use Rattle.mx_insn.specs.declared.insn.Memory.{Memory}
use Rattle.mx_insn.specs.declared.insn.Operand.{Operand}
use Rattle.mx_insn.specs.declared.insn.Operand.TheVariants as operand
use Rattle.mx_insn.specs.declared.insn.Operands.{Operands}
use Rattle.mx_insn.specs.declared.insn.Operands.TheVariants as operands
use Rattle.mx_insn.specs.declared.insn.Immediate.{Immediate}
use Rattle.mx_insn.specs.declared.insn.Immediate.TheVariants as immediate
use Rattle.mx_insn.specs.declared.insn.WideImmediate.{WideImmediate}
use Rattle.mx_insn.specs.declared.insn.WideImmediate.TheVariants as wide_immediates
use Rattle.mx_insn.specs.declared.insn.Insn.{Insn}
use Rattle.mx_insn.specs.declared.insn.Insn.TheVariants as insns
use Rattle.mx_encode.specs.declared.Wide.{Wide}
use Rattle.mx_encode.specs.Numbers.{is_short}

-- ---- an immediate of 32 bits

abbrev pub value_with : Immediate → ℕ → Immediate
value_with (immediate.Dword m) n = immediate.Dword n
value_with (immediate.Byte m) n = immediate.Byte m
value_with (immediate.Word m) n = immediate.Word m

abbrev pub factor_with : WideImmediate → ℕ → WideImmediate
factor_with (wide_immediates.Dword m) n = wide_immediates.Dword n
factor_with (wide_immediates.Word m) n = wide_immediates.Word m

abbrev pub operands_with_value : Operands → ℕ → Operands
operands_with_value (operands.ToRegister size to from) n = operands.ToRegister size to from
operands_with_value (operands.ToMemory size to from) n = operands.ToMemory size to from
operands_with_value (operands.Immediate to value) n = operands.Immediate to (value_with value n)

abbrev pub with_immediate : Insn → ℕ → Insn
with_immediate (insns.Arithmetic o x) n = insns.Arithmetic o (operands_with_value x n)
with_immediate (insns.Move x) n = insns.Move (operands_with_value x n)
with_immediate (insns.TestImmediate o value) n = insns.TestImmediate o (value_with value n)
with_immediate (insns.MultiplyImmediate to from by) n = insns.MultiplyImmediate to from (factor_with by n)
with_immediate (insns.PushImmediate m) n = insns.PushImmediate n
with_immediate i n = i

-- ---- a displacement in memory

abbrev pub memory_with_displacement : Memory → ℕ → Memory
memory_with_displacement m n = record m { displacement = n }

abbrev pub operand_with_displacement : Operand → ℕ → Operand
operand_with_displacement (operand.Register r) n = operand.Register r
operand_with_displacement (operand.Memory m) n = operand.Memory (memory_with_displacement m n)

abbrev pub operands_with_displacement : Operands → ℕ → Operands
operands_with_displacement (operands.ToRegister size to from) n =
    operands.ToRegister size to (operand_with_displacement from n)
operands_with_displacement (operands.ToMemory size to from) n =
    operands.ToMemory size (memory_with_displacement to n) from
operands_with_displacement (operands.Immediate to value) n = operands.Immediate (operand_with_displacement to n) value

abbrev pub with_displacement : Insn → ℕ → Insn
with_displacement (insns.Arithmetic o x) n = insns.Arithmetic o (operands_with_displacement x n)
with_displacement (insns.Move x) n = insns.Move (operands_with_displacement x n)
with_displacement (insns.Test size o r) n = insns.Test size (operand_with_displacement o n) r
with_displacement (insns.TestImmediate o value) n = insns.TestImmediate (operand_with_displacement o n) value
with_displacement (insns.Exchange size o r) n = insns.Exchange size (operand_with_displacement o n) r
with_displacement (insns.LoadAddress size to m) n = insns.LoadAddress size to (memory_with_displacement m n)
with_displacement (insns.Unary o size x) n = insns.Unary o size (operand_with_displacement x n)
with_displacement (insns.Product o size x) n = insns.Product o size (operand_with_displacement x n)
with_displacement (insns.Multiply size to from) n = insns.Multiply size to (operand_with_displacement from n)
with_displacement (insns.MultiplyImmediate to from by) n =
    insns.MultiplyImmediate to (operand_with_displacement from n) by
with_displacement (insns.Shift o size x count) n = insns.Shift o size (operand_with_displacement x n) count
with_displacement (insns.DoubleShift o x r count) n = insns.DoubleShift o (operand_with_displacement x n) r count
with_displacement (insns.BitTest o x k) n = insns.BitTest o (operand_with_displacement x n) k
with_displacement (insns.BitScan o to from) n = insns.BitScan o to (operand_with_displacement from n)
with_displacement (insns.ZeroExtend e to from) n = insns.ZeroExtend e to (operand_with_displacement from n)
with_displacement (insns.SignExtend e to from) n = insns.SignExtend e to (operand_with_displacement from n)
with_displacement (insns.SetCondition c o) n = insns.SetCondition c (operand_with_displacement o n)
with_displacement (insns.Push o) n = insns.Push (operand_with_displacement o n)
with_displacement (insns.JumpTo o) n = insns.JumpTo (operand_with_displacement o n)
with_displacement (insns.CallTo o) n = insns.CallTo (operand_with_displacement o n)
with_displacement i n = i

-- ---- how far a jump goes

abbrev pub with_target : Insn → ℕ → Insn
with_target (insns.JumpIf c m) n = insns.JumpIf c n
with_target (insns.Jump m) n = insns.Jump n
with_target (insns.Call m) n = insns.Call n
with_target (insns.Loop o m) n = insns.Loop o n
with_target i n = i

-- a distance is a byte with its sign extended, if a jump isn't marked wide or is a LOOP or JECXZ; CALL goes
-- anywhere
abbrev pub reaches : Insn → Wide → ℕ → Bool
reaches (insns.JumpIf c m) wide n = wide.displacement || is_short 32 n
reaches (insns.Jump m) wide n = wide.displacement || is_short 32 n
reaches (insns.Loop o m) wide n = is_short 32 n
reaches i wide n = true
