-- Single operands, and the rule for sizes.
use Rattle.std.specs.Prelude.{if◌then◌else◌, Option, Some, None}
use Rattle.mx_word.specs.declared.size.Size.{Size}
use Rattle.mx_word.specs.declared.size.Size.TheVariants.{Byte, Word, Dword}
use Rattle.mx_insn.specs.declared.insn.Memory.{Memory}
use Rattle.mx_insn.specs.declared.insn.Operand.TheVariants as operands
use Rattle.mx_insn.specs.declared.insn.OperandSize.{OperandSize}
use Rattle.mx_insn.specs.declared.insn.OperandSize.TheVariants as operand_sizes
use Rattle.mx_insn.specs.declared.insn.Insn.{Insn}
use Rattle.mx_asm_statement.specs.declared.argument.Argument.{Argument}
use Rattle.mx_asm_statement.specs.declared.argument.Argument.TheVariants as arguments
use Rattle.mx_asm_statement.specs.declared.memory.Address.{Address}
use Rattle.mx_asm_statement.specs.Items.{◌>>=◌}
use Rattle.mx_asm_statement.specs.declared.value.Value.{Value}
use Rattle.mx_asm_statement.specs.declared.branch.Branch.{Branch}
use Rattle.mx_asm_statement.specs.declared.statement.Statement.{Statement}
use Rattle.mx_asm_statement.specs.declared.statement.Statement.TheVariants as statements
use Rattle.mx_asm_statement.specs.Instructions.{instruction_of}
use Rattle.mx_asm_statement.specs.declared.sized_operand.SizedOperand.{SizedOperand}
use Rattle.mx_asm_statement.specs.Numbers.{is_same, names_no_other, number_in, value_waiting}

-- an instruction that has a form, and the values that are still to be put in: as its immediate, as its displacement
abbrev pub statement_of_insn : Insn → Option Value → Option Value → Option Statement
statement_of_insn insn immediate displacement = do
  i ← instruction_of insn immediate displacement
  Some (statements.Instruction i)

abbrev pub statement_of_branch : Branch → Value → Option Statement
statement_of_branch branch target = Some (statements.Branch branch target)

abbrev pub memory_named : Address → Option Memory
memory_named a = do
  d ← number_in Dword a.value
  Some (record { base = a.base; index = a.index; displacement = d })

abbrev pub sized_memory : Size → Address → Option SizedOperand
sized_memory s a = do
  m ← memory_named a
  Some (record { size = s; operand = operands.Memory m; displacement = value_waiting a.value })

-- if no register gives the size: a register itself, or a place in memory after its size word
abbrev pub sized_operand_of : Argument → Option SizedOperand
sized_operand_of (arguments.Register s r) =
    Some (record { size = s; operand = operands.Register r; displacement = None })
sized_operand_of (arguments.Memory (Some s) a) = sized_memory s a
sized_operand_of _ = None

-- one of this size
abbrev pub operand_of_size : Size → Argument → Option SizedOperand
operand_of_size s x = do
  spot ← sized_operand_of x
  if is_same spot.size s then Some spot else None

-- in a form with a register, which gives the size: a register of that size, or a place in memory with no
-- other size word
abbrev pub operand_beside : Size → Argument → Option SizedOperand
operand_beside s (arguments.Register t r) =
    if is_same t s then Some (record { size = s; operand = operands.Register r; displacement = None }) else None
operand_beside s (arguments.Memory named a) = if names_no_other named s then sized_memory s a else None
operand_beside s (arguments.Value v) = None

abbrev pub not_byte : Size → Option OperandSize
not_byte Byte = None
not_byte Word = Some operand_sizes.Word
not_byte Dword = Some operand_sizes.Dword
