-- The numbers of faults in messages.
use Rattle.std.specs.Prelude.{ℕ}
use Rattle.mx_lex.specs.declared.kinds.LexError.{LexError}
use Rattle.mx_lex.specs.declared.kinds.LexError.TheVariants.{BadByte, BadNumber, OpenText, NoMemory}

abbrev pub lex_error_code : LexError → ℕ
lex_error_code (BadByte at) = 1
lex_error_code (BadNumber at) = 2
lex_error_code (OpenText at) = 3
lex_error_code NoMemory = 90
