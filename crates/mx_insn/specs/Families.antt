-- Families of instructions.
use Rattle.std.specs.Prelude.{Bool, true, false}
use Rattle.mx_insn.specs.declared.insn.Insn.{Insn}
use Rattle.mx_insn.specs.declared.insn.Insn.TheVariants as insns

-- what moves, tests or calculates: all but control transfer, strings, ports and what has no operands
abbrev pub is_calculation : Insn → Bool
is_calculation (insns.JumpIf c n) = false
is_calculation (insns.Jump n) = false
is_calculation (insns.Call n) = false
is_calculation (insns.JumpTo o) = false
is_calculation (insns.CallTo o) = false
is_calculation (insns.Loop o n) = false
is_calculation (insns.Return n) = false
is_calculation (insns.Interrupt n) = false
is_calculation (insns.Transfer o size repeated) = false
is_calculation (insns.Compare o size repeat) = false
is_calculation (insns.In size port) = false
is_calculation (insns.Out size port) = false
is_calculation (insns.Plain o) = false
is_calculation _ = true
