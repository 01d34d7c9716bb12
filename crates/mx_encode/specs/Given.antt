-- What the code's functions give.
use Rattle.std.specs.Prelude.{◌≡◌, ℕ, ◌+◌, ◌<◌, ◌^◌, Bool, true, false, List, ◌∷◌, ◌++◌, Option, Some, None, Result, Ok}
use Rattle.std.specs.Prelude.{Err}
use Rattle.mx_word.specs.Names.{register_number}
use Rattle.mx_word.specs.declared.size.Size.{Size}
use Rattle.mx_word.specs.declared.size.Size.TheVariants.{Byte, Word, Dword}
use Rattle.mx_insn.specs.declared.insn.Operand.{Operand}
use Rattle.mx_insn.specs.declared.insn.Operand.TheVariants as operand
use Rattle.mx_insn.specs.declared.insn.Operands.{Operands}
use Rattle.mx_insn.specs.declared.insn.Operands.TheVariants as operands
use Rattle.mx_insn.specs.declared.insn.OperandSize.TheVariants as operand_sizes
use Rattle.mx_insn.specs.declared.insn.Immediate.{Immediate}
use Rattle.mx_insn.specs.declared.insn.Immediate.TheVariants as immediate
use Rattle.mx_insn.specs.declared.insn.WideImmediate.{WideImmediate}
use Rattle.mx_insn.specs.declared.insn.WideImmediate.TheVariants as wide_immediates
use Rattle.mx_insn.specs.declared.insn.Count.{Count}
use Rattle.mx_insn.specs.declared.insn.Count.TheVariants as counts
use Rattle.mx_insn.specs.declared.insn.Port.{Port}
use Rattle.mx_insn.specs.declared.insn.Port.TheVariants as ports
use Rattle.mx_insn.specs.declared.insn.Insn.{Insn}
use Rattle.mx_insn.specs.declared.insn.Insn.TheVariants as insns
use Rattle.mx_insn.specs.Spelling.{Sib, opcode, RmForm, operand_size, is_resized, is_escaped, prefix_bytes, escape_bytes}
use Rattle.mx_insn.specs.Spelling.{modrm_bytes}
use Rattle.mx_encode.specs.declared.NoForm.{NoForm}
use Rattle.mx_encode.specs.declared.fields.Sib as code_sib
use Rattle.mx_encode.specs.declared.fields.RmFields as code_place
use Rattle.mx_insn.specs.declared.row.OpcodeMap.{OpcodeMap}
use Rattle.mx_insn.specs.declared.row.OpcodeMap.TheVariants as opcode_maps
use Rattle.mx_encode.specs.declared.forms.Encoding.{Encoding}
use Rattle.mx_encode.specs.declared.field_numbers.NumberForm.{NumberForm}
use Rattle.mx_encode.specs.declared.field_numbers.NumberForm.TheVariants as number_forms
use Rattle.mx_encode.specs.declared.fields.Rm.{Rm}
use Rattle.mx_encode.specs.declared.fields.Number.TheVariants as numbers
use Rattle.mx_encode.specs.Numbers.{number_bytes}
use Rattle.mx_encode.specs.Choice.{Choice}

abbrev pub opcode_map : Bool → OpcodeMap
opcode_map true = opcode_maps.TwoByte
opcode_map false = opcode_maps.OneByte

-- the number is marked wide
abbrev pub is_wide : NumberForm → Bool
is_wide number_forms.Wide = true
is_wide number_forms.Shortest = false

-- a choice, without its row
abbrev pub laid : Choice → Encoding
laid c = record {
  operand_size = operand_size c.resized;
  repeat = c.repeat;
  map = opcode_map c.row.escaped;
  opcode = opcode c.row c.number;
  rm = c.rm;
  immediate = c.immediate;
}

-- what a function returned is what was chosen
abbrev pub GivesBytes : Result Encoding NoForm → Option Choice → Type 0
GivesBytes (Ok f) (Some c) = f ≡ laid c
GivesBytes (Ok f) None = ⊥
GivesBytes (Err e) (Some c) = ⊥
GivesBytes (Err e) None = Unit {0}

-- a reg field has three bits
abbrev pub RegFits : Option Rm → Type 0
RegFits None = Unit {0}
RegFits (Some rm) = rm.reg < 8

abbrev pub form_bytes : Encoding → Option RmForm → List ℕ
form_bytes f place =
    prefix_bytes (is_resized f.operand_size) f.repeat false
    ++ (escape_bytes (is_escaped f.map) ++ (f.opcode ∷ (modrm_bytes place ++ number_bytes f.immediate)))

-- a value by an opcode for bytes and the next, for words and dwords, under /0
abbrev pub value_into : ℕ → Operand → Immediate → Encoding
value_into first to (immediate.Byte n) =
    record {
      operand_size = operand_sizes.Dword;
      repeat = None;
      map = opcode_maps.OneByte;
      opcode = first;
      rm = Some (record { reg = 0; operand = to });
      immediate = numbers.Byte n;
    }
value_into first to (immediate.Word n) =
    record {
      operand_size = operand_sizes.Word;
      repeat = None;
      map = opcode_maps.OneByte;
      opcode = first + 1;
      rm = Some (record { reg = 0; operand = to });
      immediate = numbers.Word n;
    }
value_into first to (immediate.Dword n) =
    record {
      operand_size = operand_sizes.Dword;
      repeat = None;
      map = opcode_maps.OneByte;
      opcode = first + 1;
      rm = Some (record { reg = 0; operand = to });
      immediate = numbers.Dword n;
    }

-- INC or DEC, by the opcode for words and dwords in a register or else under /n of FE and FF
abbrev pub step_form : ℕ → ℕ → Size → Operand → Encoding
step_form first n Byte o =
    record {
      operand_size = operand_sizes.Dword;
      repeat = None;
      map = opcode_maps.OneByte;
      opcode = 0xFE;
      rm = Some (record { reg = n; operand = o });
      immediate = numbers.Nothing;
    }
step_form first n Word (operand.Register r) =
    record {
      operand_size = operand_sizes.Word;
      repeat = None;
      map = opcode_maps.OneByte;
      opcode = first + register_number r;
      rm = None;
      immediate = numbers.Nothing;
    }
step_form first n Dword (operand.Register r) =
    record {
      operand_size = operand_sizes.Dword;
      repeat = None;
      map = opcode_maps.OneByte;
      opcode = first + register_number r;
      rm = None;
      immediate = numbers.Nothing;
    }
step_form first n Word (operand.Memory m) =
    record {
      operand_size = operand_sizes.Word;
      repeat = None;
      map = opcode_maps.OneByte;
      opcode = 0xFF;
      rm = Some (record { reg = n; operand = operand.Memory m });
      immediate = numbers.Nothing;
    }
step_form first n Dword (operand.Memory m) =
    record {
      operand_size = operand_sizes.Dword;
      repeat = None;
      map = opcode_maps.OneByte;
      opcode = 0xFF;
      rm = Some (record { reg = n; operand = operand.Memory m });
      immediate = numbers.Nothing;
    }

-- ---- the numbers of an instruction are as wide as their types

abbrev pub OperandFits : Operand → Type 0
OperandFits (operand.Register r) = Unit {0}
OperandFits (operand.Memory m) = m.displacement < 2 ^ 32

abbrev pub ImmediateFits : Immediate → Type 0
ImmediateFits (immediate.Byte n) = n < 2 ^ 8
ImmediateFits (immediate.Word n) = n < 2 ^ 16
ImmediateFits (immediate.Dword n) = n < 2 ^ 32

abbrev pub WideImmediateFits : WideImmediate → Type 0
WideImmediateFits (wide_immediates.Word n) = n < 2 ^ 16
WideImmediateFits (wide_immediates.Dword n) = n < 2 ^ 32

abbrev pub OperandsFit : Operands → Type 0
OperandsFit (operands.ToRegister size to from) = OperandFits from
OperandsFit (operands.ToMemory size to from) = to.displacement < 2 ^ 32
OperandsFit (operands.Immediate to value) = OperandFits to × ImmediateFits value

abbrev pub CountFits : Count → Type 0
CountFits counts.Cl = Unit {0}
CountFits (counts.Immediate n) = n < 2 ^ 8

abbrev pub PortFits : Port → Type 0
PortFits ports.Dx = Unit {0}
PortFits (ports.Immediate n) = n < 2 ^ 8

abbrev pub Fits : Insn → Type 0
Fits (insns.Arithmetic o x) = OperandsFit x
Fits (insns.Move x) = OperandsFit x
Fits (insns.Test size o r) = OperandFits o
Fits (insns.TestImmediate o value) = OperandFits o × ImmediateFits value
Fits (insns.Exchange size o r) = OperandFits o
Fits (insns.LoadAddress size to m) = m.displacement < 2 ^ 32
Fits (insns.Unary o size x) = OperandFits x
Fits (insns.Product o size x) = OperandFits x
Fits (insns.Multiply size to from) = OperandFits from
Fits (insns.MultiplyImmediate to from value) = OperandFits from × WideImmediateFits value
Fits (insns.Shift o size x count) = OperandFits x × CountFits count
Fits (insns.DoubleShift o x r count) = OperandFits x × CountFits count
Fits (insns.BitTest o x n) = OperandFits x × (n < 2 ^ 8)
Fits (insns.BitScan o to from) = OperandFits from
Fits (insns.ZeroExtend e to from) = OperandFits from
Fits (insns.SignExtend e to from) = OperandFits from
Fits (insns.SetCondition c o) = OperandFits o
Fits (insns.Push o) = OperandFits o
Fits (insns.PushImmediate n) = n < 2 ^ 32
Fits (insns.JumpIf c n) = n < 2 ^ 32
Fits (insns.Jump n) = n < 2 ^ 32
Fits (insns.Call n) = n < 2 ^ 32
Fits (insns.JumpTo o) = OperandFits o
Fits (insns.CallTo o) = OperandFits o
Fits (insns.Loop o n) = n < 2 ^ 32
Fits (insns.Return n) = n < 2 ^ 16
Fits (insns.Interrupt n) = n < 2 ^ 8
Fits (insns.In size port) = PortFits port
Fits (insns.Out size port) = PortFits port
Fits _ = Unit {0}

-- ---- ModRM and SIB as the code holds them

abbrev pub sib_seen : Option code_sib.Sib → Option Sib
sib_seen None = None
sib_seen (Some s) = Some (record { scale = s.scale; index = s.index; base = s.base })

abbrev pub rm_form_seen : code_place.RmFields → RmForm
rm_form_seen p =
    record { mode = p.mode; reg = p.reg; rm = p.rm; sib = sib_seen p.sib; displacement = number_bytes p.displacement }
