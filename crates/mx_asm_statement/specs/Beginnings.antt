-- The first word of the line of a statement.
use Rattle.mx_asm_statement.specs.declared.line.StatementStart.{StatementStart}
use Rattle.mx_asm_statement.specs.declared.line.StatementStart.TheVariants as beginnings
use Rattle.mx_asm_statement.specs.declared.statement.Statement.{Statement}
use Rattle.mx_asm_statement.specs.declared.statement.Statement.TheVariants as says

abbrev pub begins_with : Statement → StatementStart
begins_with says.Nothing = beginnings.Nothing
begins_with (says.Enter section) = beginnings.Anywhere
begins_with (says.Data size values) = beginnings.Data
begins_with (says.Ascii bytes) = beginnings.Data
begins_with (says.Space n) = beginnings.Anywhere
begins_with says.Separate = beginnings.Separate
begins_with (says.Entry name) = beginnings.Entry
begins_with (says.Stack n) = beginnings.Stack
begins_with (says.Instruction i) = beginnings.Instruction
begins_with (says.Branch k target) = beginnings.Instruction
