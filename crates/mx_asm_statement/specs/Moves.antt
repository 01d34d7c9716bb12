-- What moves values as they are, or extends them: XCHG, LEA, MOVZX, MOVSX.
use Rattle.std.specs.Prelude.{Option, Some, None, List, [], ◌∷◌}
use Rattle.mx_word.specs.declared.size.Size.{Size}
use Rattle.mx_word.specs.declared.size.Size.TheVariants.{Byte, Word, Dword}
use Rattle.mx_insn.specs.declared.insn.Extension.{Extension}
use Rattle.mx_insn.specs.declared.insn.Extension.TheVariants.{ByteToWord, ByteToDword, WordToDword}
use Rattle.mx_insn.specs.declared.insn.Insn.TheVariants as insns
use Rattle.mx_asm_statement.specs.declared.argument.Argument.{Argument}
use Rattle.mx_asm_statement.specs.declared.argument.Argument.TheVariants as arguments
use Rattle.mx_asm_statement.specs.Items.{◌>>=◌}
use Rattle.mx_asm_statement.specs.declared.statement.Statement.{Statement}
use Rattle.mx_asm_statement.specs.declared.move_forms.ExtensionParts.{ExtensionParts}
use Rattle.mx_asm_statement.specs.Numbers.{value_waiting}
use Rattle.mx_asm_statement.specs.SizedOperands.{statement_of_insn, memory_named, sized_operand_of, operand_beside}
use Rattle.mx_asm_statement.specs.SizedOperands.{not_byte}

-- a register or memory, and a register
abbrev pub exchange : List Argument → Option Statement
exchange (x ∷ arguments.Register s r ∷ []) = do
  spot ← operand_beside s x
  statement_of_insn (insns.Exchange s spot.operand r) None spot.displacement
exchange _ = None

-- no size word comes before LEA's brackets
abbrev pub load_address_statement : List Argument → Option Statement
load_address_statement (arguments.Register s to ∷ arguments.Memory None a ∷ []) = do
  size ← not_byte s
  m ← memory_named a
  statement_of_insn (insns.LoadAddress size to m) None (value_waiting a.value)
load_address_statement _ = None

abbrev pub extension_between : Size → Size → Option Extension
extension_between Word Byte = Some ByteToWord
extension_between Dword Byte = Some ByteToDword
extension_between Dword Word = Some WordToDword
extension_between _ _ = None

-- a register from a register, or from memory after a size word
abbrev pub extension_parts : List Argument → Option ExtensionParts
extension_parts (arguments.Register s to ∷ y ∷ []) = do
  spot ← sized_operand_of y
  extension ← extension_between s spot.size
  Some (record { extension = extension; to = to; from = spot.operand; displacement = spot.displacement })
extension_parts _ = None

abbrev pub zero_extend : List Argument → Option Statement
zero_extend xs = do
  x ← extension_parts xs
  statement_of_insn (insns.ZeroExtend x.extension x.to x.from) None x.displacement

abbrev pub sign_extend : List Argument → Option Statement
sign_extend xs = do
  x ← extension_parts xs
  statement_of_insn (insns.SignExtend x.extension x.to x.from) None x.displacement
