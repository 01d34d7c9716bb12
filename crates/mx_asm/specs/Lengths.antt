-- How many bytes a statement takes, whatever the addresses of its names.
use Rattle.std.specs.Prelude.{ℕ, ◌*◌, length}
use Rattle.mx_word.specs.Word.{bytes_in}
use Rattle.mx_encode.specs.Lengths.{chosen_length}
use Rattle.mx_asm_statement.specs.declared.statement.Statement.{Statement}
use Rattle.mx_asm_statement.specs.declared.statement.Statement.TheVariants as says
use Rattle.mx_asm_statement.specs.Instructions.{marks}
use Rattle.mx_asm.specs.Branches.{branch_length}

abbrev pub statement_length : Statement → ℕ
statement_length says.Nothing = 0
statement_length (says.Enter section) = 0
statement_length (says.Data size values) = bytes_in size * length values
statement_length (says.Ascii bytes) = length bytes
statement_length (says.Space n) = n
statement_length says.Separate = 0
statement_length (says.Entry name) = 0
statement_length (says.Stack n) = 0
statement_length (says.Instruction i) = chosen_length i.insn (marks i)
statement_length (says.Branch b target) = branch_length b
