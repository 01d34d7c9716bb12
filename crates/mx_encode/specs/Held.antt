-- Which numbers are in the chosen encoding.
use Rattle.std.specs.Prelude.{ℕ, Bool, true, false, Option, Some, None}
use Rattle.mx_insn.specs.declared.insn.Operand.{Operand}
use Rattle.mx_insn.specs.declared.insn.Operand.TheVariants as operand
use Rattle.mx_insn.specs.declared.insn.Insn.{Insn}
use Rattle.mx_insn.specs.declared.insn.Insn.TheVariants as insns
use Rattle.mx_encode.specs.declared.fields.Number.{Number}
use Rattle.mx_encode.specs.declared.fields.Number.TheVariants as numbers
use Rattle.mx_encode.specs.declared.fields.Rm.{Rm}
use Rattle.mx_encode.specs.Choice.{Choice}

abbrev pub dword_of : Number → Option ℕ
dword_of numbers.Nothing = None
dword_of (numbers.Byte n) = None
dword_of (numbers.Word n) = None
dword_of (numbers.Dword n) = Some n

-- the number of 32 bits at the end of the bytes: an immediate, or how far a jump goes
abbrev pub dword_in : Option Choice → Option ℕ
dword_in None = None
dword_in (Some c) = dword_of c.immediate

abbrev pub displacement_of : Operand → Option ℕ
displacement_of (operand.Register r) = None
displacement_of (operand.Memory m) = Some m.displacement

abbrev pub displacement_beside : Option Rm → Option ℕ
displacement_beside None = None
displacement_beside (Some rm) = displacement_of rm.operand

-- the displacement of the place in memory
abbrev pub displacement_in : Option Choice → Option ℕ
displacement_in None = None
displacement_in (Some c) = displacement_beside c.rm

-- another number, if there was one
abbrev pub in_place_of : Option ℕ → ℕ → Option ℕ
in_place_of None n = None
in_place_of (Some m) n = Some n

-- its number is how far it goes
abbrev pub is_jump : Insn → Bool
is_jump (insns.JumpIf c n) = true
is_jump (insns.Jump n) = true
is_jump (insns.Call n) = true
is_jump (insns.Loop o n) = true
is_jump _ = false
