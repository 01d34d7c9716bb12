-- What is wanted of a program's file, of a line of a text for the assembler, and of a file that is written over (our own
-- words).
use Rattle.std.specs.Prelude.{ℕ, List, ◌++◌, codes}
use Rattle.mx_aout.specs.declared.program.FileError.{FileError}
use Rattle.mx_aout.specs.declared.program.FileError.TheVariants as errors
use Rattle.mx_app_command.specs.declared.files.FileKind.{FileKind}
use Rattle.mx_app_command.specs.declared.files.FileKind.TheVariants as kinds
use Rattle.mx_asm.specs.declared.fault.Problem.{Problem}
use Rattle.mx_asm.specs.declared.fault.Problem.TheVariants as problems

abbrev pub refusal_wanted : FileError → List ℕ
refusal_wanted errors.Truncated = codes "a whole header, and a file as long as it says"
refusal_wanted errors.BadMagic = codes "an a.out file, which begins with the bytes 01 03"
refusal_wanted errors.BadCpu = codes "a program for the 80386, whose byte 3 is 10 hex"
refusal_wanted errors.BadFlags = codes "no flag but A_NSYM, A_EXEC and A_SEP"
refusal_wanted errors.BadHeader = codes "a header of 32 or 48 bytes"
refusal_wanted errors.NoTotal = codes "a total above 0"
refusal_wanted errors.TooLarge = codes "a total within the limits that holds all parts"
refusal_wanted errors.BadSymbols = codes "symbols of 16 bytes each"
refusal_wanted errors.NoMemory = codes "more of it"

abbrev pub problem_wanted : Problem → List ℕ
problem_wanted problems.BadByte =
    codes "a token, or an escape that is known; a character is written as its number, and there are no constants"
problem_wanted problems.BadNumber = codes "a number of 32 bits, decimal or hexadecimal after 0x, as 33 or 0x21"
problem_wanted problems.OpenText = codes "the quote that ends a text"
problem_wanted problems.UnknownWord = codes "an instruction or a directive, in lower case"
problem_wanted problems.BadOperands =
    codes "operands that the statement takes: registers, numbers that fit, and at most one bracket, with "
    ++ codes "byte, word or dword before it if no register has the size; a comment begins with ;"
problem_wanted problems.Twice = codes "each label, .sep, .entry and .stack once"
problem_wanted problems.Undefined = codes "a name that a line defines"
problem_wanted problems.TooFar = codes "a target at most 127 bytes ahead or 128 back"
problem_wanted problems.WrongSection = codes "a statement that may stand in this section"
problem_wanted problems.TooLarge = codes "at most 1048576 bytes of text and 4194304 in all"
problem_wanted problems.LongName = codes "a name of at most 8 bytes"

-- what is wrong with a file that is there, if what is to be written holds this; and what was wanted in its place
abbrev pub kind_said : FileKind → List ℕ
kind_said kinds.Program = codes "is there and is no program"
kind_said kinds.History = codes "is there and is no history"
kind_said kinds.Sums = codes "is there and has no sums"

abbrev pub kind_wanted : FileKind → List ℕ
kind_wanted kinds.Program = codes "a new name, an empty file or a program, or --force"
kind_wanted kinds.History = codes "a new name, an empty file or a history, or --force"
kind_wanted kinds.Sums = codes "a new name, an empty file or sums, or --force"
