-- What works on registers and memory: INC, DEC, NOT, NEG, TEST, MUL, IMUL, DIV, IDIV, shifts, bit tests, bit scans,
-- SETcc.
use Rattle.std.specs.Prelude.{ℕ, Option, Some, None, List, [], ◌∷◌}
use Rattle.mx_word.specs.declared.size.Size.{Size}
use Rattle.mx_word.specs.declared.size.Size.TheVariants.{Byte, Word, Dword}
use Rattle.mx_word.specs.declared.names.Register.TheVariants.{Ecx}
use Rattle.mx_word.specs.declared.names.Condition.{Condition}
use Rattle.mx_word.specs.declared.names.BitTest.{BitTest}
use Rattle.mx_word.specs.declared.names.BitScan.{BitScan}
use Rattle.mx_word.specs.declared.names.DoubleShift.{DoubleShift}
use Rattle.mx_word.specs.declared.names.Unary.{Unary}
use Rattle.mx_word.specs.declared.names.Shift.{Shift}
use Rattle.mx_insn.specs.declared.insn.Product.{Product}
use Rattle.mx_insn.specs.declared.insn.Product.TheVariants.{Imul}
use Rattle.mx_insn.specs.declared.insn.Count.{Count}
use Rattle.mx_insn.specs.declared.insn.Count.TheVariants as counts
use Rattle.mx_insn.specs.declared.insn.WideImmediate.{WideImmediate}
use Rattle.mx_insn.specs.declared.insn.WideImmediate.TheVariants as wide_immediates
use Rattle.mx_insn.specs.declared.insn.Insn.TheVariants as insns
use Rattle.mx_asm_statement.specs.declared.argument.Argument.{Argument}
use Rattle.mx_asm_statement.specs.declared.argument.Argument.TheVariants as arguments
use Rattle.mx_asm_statement.specs.Items.{◌>>=◌}
use Rattle.mx_asm_statement.specs.declared.value.Value.{Value}
use Rattle.mx_asm_statement.specs.declared.statement.Statement.{Statement}
use Rattle.mx_asm_statement.specs.Numbers.{number_in, immediate_in, value_waiting}
use Rattle.mx_asm_statement.specs.SizedOperands.{statement_of_insn, sized_operand_of, operand_of_size, operand_beside}
use Rattle.mx_asm_statement.specs.SizedOperands.{not_byte}

abbrev pub unary : Unary → List Argument → Option Statement
unary o (x ∷ []) = do
  spot ← sized_operand_of x
  statement_of_insn (insns.Unary o spot.size spot.operand) None spot.displacement
unary o _ = None

-- of a register, or of an immediate, with a register or memory
abbrev pub test : List Argument → Option Statement
test (x ∷ arguments.Register s r ∷ []) = do
  spot ← operand_beside s x
  statement_of_insn (insns.Test s spot.operand r) None spot.displacement
test (x ∷ arguments.Value v ∷ []) = do
  spot ← sized_operand_of x
  i ← immediate_in spot.size v
  statement_of_insn (insns.TestImmediate spot.operand i) (value_waiting v) spot.displacement
test _ = None

abbrev pub sized_factor : Size → ℕ → Option WideImmediate
sized_factor Byte n = None
sized_factor Word n = Some (wide_immediates.Word n)
sized_factor Dword n = Some (wide_immediates.Dword n)

abbrev pub factor_of : Size → Value → Option WideImmediate
factor_of s v = do
  word ← number_in s v
  sized_factor s word

-- with the accumulator; IMUL also into a register, and by an immediate
abbrev pub product : Product → List Argument → Option Statement
product o (x ∷ []) = do
  spot ← sized_operand_of x
  statement_of_insn (insns.Product o spot.size spot.operand) None spot.displacement
product Imul (arguments.Register s to ∷ y ∷ []) = do
  size ← not_byte s
  spot ← operand_beside s y
  statement_of_insn (insns.Multiply size to spot.operand) None spot.displacement
product Imul (arguments.Register s to ∷ y ∷ arguments.Value v ∷ []) = do
  spot ← operand_beside s y
  by ← factor_of s v
  statement_of_insn (insns.MultiplyImmediate to spot.operand by) (value_waiting v) spot.displacement
product o _ = None

-- CL, or a number of 8 bits
abbrev pub shift_count_of : Argument → Option Count
shift_count_of (arguments.Register Byte Ecx) = Some counts.Cl
shift_count_of (arguments.Value v) = do
  word ← number_in Byte v
  Some (counts.Immediate word)
shift_count_of _ = None

abbrev pub shift : Shift → List Argument → Option Statement
shift o (x ∷ y ∷ []) = do
  spot ← sized_operand_of x
  count ← shift_count_of y
  statement_of_insn (insns.Shift o spot.size spot.operand count) None spot.displacement
shift o _ = None

-- a dword in a register or memory, and a register that fills it
abbrev pub double_shift : DoubleShift → List Argument → Option Statement
double_shift o (x ∷ arguments.Register Dword r ∷ y ∷ []) = do
  spot ← operand_beside Dword x
  count ← shift_count_of y
  statement_of_insn (insns.DoubleShift o spot.operand r count) None spot.displacement
double_shift o _ = None

-- by a number of 8 bits; a register's bit by a register too. Memory with a register for the number has no form
abbrev pub bit_test : BitTest → List Argument → Option Statement
bit_test o (arguments.Register Dword r ∷ arguments.Register Dword n ∷ []) =
    statement_of_insn (insns.BitTestRegister o r n) None None
bit_test o (x ∷ arguments.Value v ∷ []) = do
  spot ← operand_of_size Dword x
  word ← number_in Byte v
  statement_of_insn (insns.BitTest o spot.operand word) None spot.displacement
bit_test o _ = None

abbrev pub bit_scan : BitScan → List Argument → Option Statement
bit_scan o (arguments.Register Dword to ∷ y ∷ []) = do
  spot ← operand_beside Dword y
  statement_of_insn (insns.BitScan o to spot.operand) None spot.displacement
bit_scan o _ = None

abbrev pub set_condition_statement : Condition → List Argument → Option Statement
set_condition_statement c (x ∷ []) = do
  spot ← operand_of_size Byte x
  statement_of_insn (insns.SetCondition c spot.operand) None spot.displacement
set_condition_statement c _ = None
