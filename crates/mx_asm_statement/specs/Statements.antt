-- Which statement a mnemonic and its arguments are.
use Rattle.std.specs.Prelude.{true, false, Option, Some, None, List, ⊤}
use Rattle.mx_word.specs.declared.names.Arithmetic.{Arithmetic}
use Rattle.mx_insn.specs.declared.insn.OperandSize.TheVariants.{Word, Dword}
use Rattle.mx_insn.specs.declared.insn.Repeat.TheVariants as repeats
use Rattle.mx_insn.specs.declared.insn.Insn.TheVariants as insns
use Rattle.mx_insn_words.specs.declared.mnemonic.Mnemonic.{Mnemonic}
use Rattle.mx_insn_words.specs.declared.mnemonic.Mnemonic.TheVariants as mnemonics
use Rattle.mx_insn_words.specs.declared.mnemonic.Single.{Single}
use Rattle.mx_insn_words.specs.declared.mnemonic.Single.TheVariants.{Mov, Test, Xchg, Lea, Movzx, Movsx, Push, Pop, Jmp}
use Rattle.mx_insn_words.specs.declared.mnemonic.Single.TheVariants.{Call, Ret, Int, Cbw, Cwde, Cwd, Cdq, In, Out}
use Rattle.mx_insn_words.specs.declared.start.Prefix.{Prefix}
use Rattle.mx_insn_words.specs.declared.start.Prefix.TheVariants.{Rep, Repe, Repne}
use Rattle.mx_asm_statement.specs.declared.argument.Argument.{Argument}
use Rattle.mx_asm_statement.specs.declared.branch.JumpLength.{JumpLength}
use Rattle.mx_asm_statement.specs.Items.{◌>>=◌}
use Rattle.mx_asm_statement.specs.declared.statement.Statement.{Statement}
use Rattle.mx_asm_statement.specs.declared.statement.Statement.TheVariants as statements
use Rattle.mx_asm_statement.specs.SizedOperands.{statement_of_insn}
use Rattle.mx_asm_statement.specs.Pairs.{operands_of}
use Rattle.mx_asm_statement.specs.Operations.{unary, test, product, shift, double_shift, bit_test, bit_scan}
use Rattle.mx_asm_statement.specs.Operations.{set_condition_statement}
use Rattle.mx_asm_statement.specs.Moves.{exchange, load_address_statement, zero_extend, sign_extend}
use Rattle.mx_asm_statement.specs.Stack.{statement_without_arguments, push, pop, return_of, interrupt, port_in}
use Rattle.mx_asm_statement.specs.Stack.{port_out}
use Rattle.mx_asm_statement.specs.Transfers.{jump, jump_if_statement, call, loop_statement}

-- an instruction or a jump, and no directive
abbrev pub IsCode : Statement → Type 0
IsCode (statements.Instruction i) = ⊤
IsCode (statements.Branch k target) = ⊤
IsCode _ = ⊥

abbrev pub arithmetic_statement : Arithmetic → List Argument → Option Statement
arithmetic_statement o xs = do
  pair ← operands_of xs
  statement_of_insn (insns.Arithmetic o pair.operands) pair.immediate pair.displacement

abbrev pub move_statement : List Argument → Option Statement
move_statement xs = do
  pair ← operands_of xs
  statement_of_insn (insns.Move pair.operands) pair.immediate pair.displacement

abbrev pub statement_for_single : JumpLength → Single → List Argument → Option Statement
statement_for_single length Mov xs = move_statement xs
statement_for_single length Test xs = test xs
statement_for_single length Xchg xs = exchange xs
statement_for_single length Lea xs = load_address_statement xs
statement_for_single length Movzx xs = zero_extend xs
statement_for_single length Movsx xs = sign_extend xs
statement_for_single length Push xs = push xs
statement_for_single length Pop xs = pop xs
statement_for_single length Jmp xs = jump length xs
statement_for_single length Call xs = call xs
statement_for_single length Ret xs = return_of xs
statement_for_single length Int xs = interrupt xs
statement_for_single length Cbw xs = statement_without_arguments (insns.ExtendAccumulator Word) xs
statement_for_single length Cwde xs = statement_without_arguments (insns.ExtendAccumulator Dword) xs
statement_for_single length Cwd xs = statement_without_arguments (insns.SpreadSign Word) xs
statement_for_single length Cdq xs = statement_without_arguments (insns.SpreadSign Dword) xs
statement_for_single length In xs = port_in xs
statement_for_single length Out xs = port_out xs

-- a mnemonic, the length of a jump, and its arguments
abbrev pub statement_for : JumpLength → Mnemonic → List Argument → Option Statement
statement_for length (mnemonics.Arithmetic o) xs = arithmetic_statement o xs
statement_for length (mnemonics.Unary o) xs = unary o xs
statement_for length (mnemonics.Product o) xs = product o xs
statement_for length (mnemonics.Shift o) xs = shift o xs
statement_for length (mnemonics.DoubleShift o) xs = double_shift o xs
statement_for length (mnemonics.BitTest o) xs = bit_test o xs
statement_for length (mnemonics.BitScan o) xs = bit_scan o xs
statement_for length (mnemonics.Loop o) xs = loop_statement o xs
statement_for length (mnemonics.Plain o) xs = statement_without_arguments (insns.Plain o) xs
statement_for length (mnemonics.Single o) xs = statement_for_single length o xs
statement_for length (mnemonics.JumpIf c) xs = jump_if_statement length c xs
statement_for length (mnemonics.SetCondition c) xs = set_condition_statement c xs
statement_for length (mnemonics.Transfer o s) xs = statement_without_arguments (insns.Transfer o s false) xs
statement_for length (mnemonics.Compare o s) xs = statement_without_arguments (insns.Compare o s None) xs

-- after rep a string instruction that moves, after repe and repne one that compares
abbrev pub statement_after_prefix : Prefix → Mnemonic → Option Statement
statement_after_prefix Rep (mnemonics.Transfer o s) = statement_of_insn (insns.Transfer o s true) None None
statement_after_prefix Repe (mnemonics.Compare o s) =
    statement_of_insn (insns.Compare o s (Some repeats.Repe)) None None
statement_after_prefix Repne (mnemonics.Compare o s) =
    statement_of_insn (insns.Compare o s (Some repeats.Repne)) None None
statement_after_prefix _ _ = None
