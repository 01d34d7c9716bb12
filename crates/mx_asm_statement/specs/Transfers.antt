-- Jumps, calls and loops: to a value, or to the address in a dword of a register or memory.
use Rattle.std.specs.Prelude.{Option, None, List, [], ◌∷◌}
use Rattle.mx_word.specs.declared.size.Size.TheVariants.{Dword}
use Rattle.mx_word.specs.declared.names.Condition.{Condition}
use Rattle.mx_insn.specs.declared.insn.Loop.{Loop}
use Rattle.mx_insn.specs.declared.insn.Insn.TheVariants as insns
use Rattle.mx_asm_statement.specs.declared.argument.Argument.{Argument}
use Rattle.mx_asm_statement.specs.declared.argument.Argument.TheVariants as arguments
use Rattle.mx_asm_statement.specs.Items.{◌>>=◌}
use Rattle.mx_asm_statement.specs.declared.branch.JumpLength.{JumpLength}
use Rattle.mx_asm_statement.specs.declared.branch.JumpLength.TheVariants.{Long}
use Rattle.mx_asm_statement.specs.declared.branch.Branch.TheVariants as branches
use Rattle.mx_asm_statement.specs.declared.statement.Statement.{Statement}
use Rattle.mx_asm_statement.specs.SizedOperands.{statement_of_insn, statement_of_branch, operand_of_size}

abbrev pub jump : JumpLength → List Argument → Option Statement
jump length (arguments.Value target ∷ []) = statement_of_branch (branches.Jump length) target
jump Long (x ∷ []) = do
  spot ← operand_of_size Dword x
  statement_of_insn (insns.JumpTo spot.operand) None spot.displacement
jump _ _ = None

abbrev pub jump_if_statement : JumpLength → Condition → List Argument → Option Statement
jump_if_statement length c (arguments.Value target ∷ []) = statement_of_branch (branches.JumpIf c length) target
jump_if_statement length c _ = None

abbrev pub call : List Argument → Option Statement
call (arguments.Value target ∷ []) = statement_of_branch branches.Call target
call (x ∷ []) = do
  spot ← operand_of_size Dword x
  statement_of_insn (insns.CallTo spot.operand) None spot.displacement
call _ = None

abbrev pub loop_statement : Loop → List Argument → Option Statement
loop_statement o (arguments.Value target ∷ []) = statement_of_branch (branches.Loop o) target
loop_statement o _ = None
