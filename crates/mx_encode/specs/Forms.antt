-- Which instructions bytes can spell: all but those that index by ESP, and a LOOP or JECXZ that goes too far.
use Rattle.std.specs.Prelude.{Bool, true}
use Rattle.mx_insn.specs.declared.insn.Operands.{Operands}
use Rattle.mx_insn.specs.declared.insn.Operands.TheVariants as operands
use Rattle.mx_insn.specs.declared.insn.Insn.{Insn}
use Rattle.mx_insn.specs.declared.insn.Insn.TheVariants as insns
use Rattle.mx_encode.specs.Numbers.{is_short}
use Rattle.mx_encode.specs.Places.{can_index, can_stand}

abbrev pub operands_stand : Operands → Bool
operands_stand (operands.ToRegister size to from) = can_stand from
operands_stand (operands.ToMemory size to from) = can_index to.index
operands_stand (operands.Immediate to value) = can_stand to

abbrev pub has_form : Insn → Bool
has_form (insns.Arithmetic o x) = operands_stand x
has_form (insns.Move x) = operands_stand x
has_form (insns.Test size o r) = can_stand o
has_form (insns.TestImmediate o value) = can_stand o
has_form (insns.Exchange size o r) = can_stand o
has_form (insns.LoadAddress size to m) = can_index m.index
has_form (insns.Unary o size x) = can_stand x
has_form (insns.Product o size x) = can_stand x
has_form (insns.Multiply size to from) = can_stand from
has_form (insns.MultiplyImmediate to from value) = can_stand from
has_form (insns.Shift o size x count) = can_stand x
has_form (insns.DoubleShift o x r count) = can_stand x
has_form (insns.BitTest o x n) = can_stand x
has_form (insns.BitScan o to from) = can_stand from
has_form (insns.ZeroExtend e to from) = can_stand from
has_form (insns.SignExtend e to from) = can_stand from
has_form (insns.SetCondition c o) = can_stand o
has_form (insns.Push o) = can_stand o
has_form (insns.JumpTo o) = can_stand o
has_form (insns.CallTo o) = can_stand o
has_form (insns.Loop o n) = is_short 32 n
has_form _ = true
