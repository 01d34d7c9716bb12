-- Two operands of one size.
use Rattle.std.specs.Prelude.{if◌then◌else◌, Option, Some, None, List, [], ◌∷◌}
use Rattle.mx_word.specs.declared.size.Size.{Size}
use Rattle.mx_word.specs.declared.names.Register.{Register}
use Rattle.mx_insn.specs.declared.insn.Operands.TheVariants.{ToRegister, ToMemory, Immediate}
use Rattle.mx_asm_statement.specs.declared.argument.Argument.{Argument}
use Rattle.mx_asm_statement.specs.declared.argument.Argument.TheVariants as arguments
use Rattle.mx_asm_statement.specs.declared.memory.Address.{Address}
use Rattle.mx_asm_statement.specs.Items.{◌>>=◌}
use Rattle.mx_asm_statement.specs.declared.value.Value.{Value}
use Rattle.mx_asm_statement.specs.declared.sized_operand.SizedOperand.{SizedOperand}
use Rattle.mx_asm_statement.specs.declared.pair.Pair.{Pair}
use Rattle.mx_asm_statement.specs.Numbers.{names_no_other, immediate_in, value_waiting}
use Rattle.mx_asm_statement.specs.SizedOperands.{memory_named, sized_operand_of, operand_beside}

-- a register from a register or from memory
abbrev pub pair_into_register : Size → Register → Argument → Option Pair
pair_into_register s to from = do
  spot ← operand_beside s from
  Some (record { operands = ToRegister s to spot.operand; immediate = None; displacement = spot.displacement })

-- memory from a register
abbrev pub pair_into_memory : Option Size → Address → Size → Register → Option Pair
pair_into_memory named a s from = if names_no_other named s then (do
  m ← memory_named a
  Some (record { operands = ToMemory s m from; immediate = None; displacement = value_waiting a.value })) else None

-- a register or memory from an immediate of its size
abbrev pub pair_of_immediate : SizedOperand → Value → Option Pair
pair_of_immediate spot v = do
  i ← immediate_in spot.size v
  Some (record { operands = Immediate spot.operand i; immediate = value_waiting v; displacement = spot.displacement })

-- into a register or memory from an immediate, into a register from a register or memory, into memory from a register
abbrev pub operands_of : List Argument → Option Pair
operands_of (x ∷ arguments.Value v ∷ []) = do
  spot ← sized_operand_of x
  pair_of_immediate spot v
operands_of (arguments.Register s to ∷ y ∷ []) = pair_into_register s to y
operands_of (arguments.Memory named a ∷ arguments.Register s from ∷ []) = pair_into_memory named a s from
operands_of _ = None
