-- Why a line is refused (our own choice of codes and of their order).
use Rattle.std.specs.Prelude.{ℕ, Bool, true, false, if◌then◌else◌, Option, Some, None, is_none, List, [], ◌∷◌}
use Rattle.mx_asm_statement.specs.declared.statement.Section.{Section}
use Rattle.mx_asm_statement.specs.declared.statement.Section.TheVariants as sections
use Rattle.mx_asm_statement.specs.declared.line.StatementStart.{StatementStart}
use Rattle.mx_asm_statement.specs.declared.line.StatementStart.TheVariants as beginnings
use Rattle.mx_asm_statement.specs.declared.line.Line.{Line}
use Rattle.mx_asm_statement.specs.declared.line.Saying.{Saying}
use Rattle.mx_asm_statement.specs.declared.line.Saying.TheVariants.{First, Second}
use Rattle.mx_asm_statement.specs.declared.line.Reason.{Reason}
use Rattle.mx_asm_statement.specs.declared.line.Reason.TheVariants.{LongName, Twice, Unknown, WrongSection, NoForm}

abbrev pub reason_code : Reason → ℕ
reason_code LongName = 17
reason_code Twice = 12
reason_code Unknown = 10
reason_code WrongSection = 15
reason_code NoForm = 11

abbrev pub is_unknown : StatementStart → Bool
is_unknown beginnings.Unknown = true
is_unknown _ = false

-- instructions are only in the text section, and bss takes no bytes
abbrev pub is_misplaced : Section → StatementStart → Bool
is_misplaced sections.Data beginnings.Instruction = true
is_misplaced sections.Bss beginnings.Instruction = true
is_misplaced sections.Bss beginnings.Data = true
is_misplaced _ _ = false

abbrev pub first_reason : List (Bool × Reason) → Option Reason
first_reason [] = None
first_reason (r ∷ rest) = if r.0 then Some r.1 else first_reason rest

-- whether a line above defines already what this line defines
abbrev pub is_said_again : Saying → Bool
is_said_again First = false
is_said_again Second = true

-- the first reason that holds
abbrev pub statement_refusal : Section → Saying → Line → Option Reason
statement_refusal section saying line = first_reason (
    (line.long, LongName)
    ∷ (is_said_again saying, Twice)
    ∷ (is_unknown line.beginning, Unknown)
    ∷ (is_misplaced section line.beginning, WrongSection)
    ∷ (is_none line.statement, NoForm)
    ∷ [])
