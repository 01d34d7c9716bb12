-- The stack, interrupts and ports: PUSH, POP, RET, INT, IN, OUT, and what has no operands.
use Rattle.std.specs.Prelude.{Option, Some, None, List, [], ◌∷◌}
use Rattle.mx_word.specs.declared.size.Size.TheVariants.{Byte, Word, Dword}
use Rattle.mx_word.specs.declared.names.Register.{Register}
use Rattle.mx_word.specs.declared.names.Register.TheVariants.{Eax, Edx}
use Rattle.mx_insn.specs.declared.insn.Port.{Port}
use Rattle.mx_insn.specs.declared.insn.Port.TheVariants as ports
use Rattle.mx_insn.specs.declared.insn.PortSize.{PortSize}
use Rattle.mx_insn.specs.declared.insn.PortSize.TheVariants as port_sizes
use Rattle.mx_insn.specs.declared.insn.Insn.{Insn}
use Rattle.mx_insn.specs.declared.insn.Insn.TheVariants as insns
use Rattle.mx_asm_statement.specs.declared.argument.Argument.{Argument}
use Rattle.mx_asm_statement.specs.declared.argument.Argument.TheVariants as arguments
use Rattle.mx_asm_statement.specs.Items.{◌>>=◌}
use Rattle.mx_asm_statement.specs.declared.statement.Statement.{Statement}
use Rattle.mx_asm_statement.specs.Numbers.{number_in, value_waiting}
use Rattle.mx_asm_statement.specs.SizedOperands.{statement_of_insn, operand_of_size}

abbrev pub statement_without_arguments : Insn → List Argument → Option Statement
statement_without_arguments insn [] = statement_of_insn insn None None
statement_without_arguments insn _ = None

-- a number, or a dword of a register or memory
abbrev pub push : List Argument → Option Statement
push (arguments.Value v ∷ []) = do
  word ← number_in Dword v
  statement_of_insn (insns.PushImmediate word) (value_waiting v) None
push (x ∷ []) = do
  spot ← operand_of_size Dword x
  statement_of_insn (insns.Push spot.operand) None spot.displacement
push _ = None

-- the register of a form that has one dword register and nothing else
abbrev pub only_register : List Argument → Option Register
only_register (arguments.Register Dword r ∷ []) = Some r
only_register _ = None

abbrev pub pop : List Argument → Option Statement
pop xs = do
  r ← only_register xs
  statement_of_insn (insns.Pop r) None None

abbrev pub return_of : List Argument → Option Statement
return_of [] = statement_of_insn (insns.Return 0) None None
return_of (arguments.Value v ∷ []) = do
  word ← number_in Word v
  statement_of_insn (insns.Return word) None None
return_of _ = None

abbrev pub interrupt : List Argument → Option Statement
interrupt (arguments.Value v ∷ []) = do
  word ← number_in Byte v
  statement_of_insn (insns.Interrupt word) None None
interrupt _ = None

-- DX, or a number of 8 bits
abbrev pub port_of : Argument → Option Port
port_of (arguments.Register Word Edx) = Some ports.Dx
port_of (arguments.Value v) = do
  word ← number_in Byte v
  Some (ports.Immediate word)
port_of _ = None

-- AL or EAX
abbrev pub port_size_of : Argument → Option PortSize
port_size_of (arguments.Register Byte Eax) = Some port_sizes.Byte
port_size_of (arguments.Register Dword Eax) = Some port_sizes.Dword
port_size_of _ = None

abbrev pub port_in : List Argument → Option Statement
port_in (x ∷ y ∷ []) = do
  size ← port_size_of x
  port ← port_of y
  statement_of_insn (insns.In size port) None None
port_in _ = None

abbrev pub port_out : List Argument → Option Statement
port_out (x ∷ y ∷ []) = do
  port ← port_of x
  size ← port_size_of y
  statement_of_insn (insns.Out size port) None None
port_out _ = None
