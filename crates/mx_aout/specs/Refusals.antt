-- The numbers and names of the reasons to refuse a file. They are our own choice.
use Rattle.std.specs.Prelude.{ℕ, List, codes}
use Rattle.mx_aout.specs.declared.program.FileError.{FileError}
use Rattle.mx_aout.specs.declared.program.FileError.TheVariants.{Truncated, BadMagic, BadCpu, BadFlags, BadHeader}
use Rattle.mx_aout.specs.declared.program.FileError.TheVariants.{NoTotal, TooLarge, BadSymbols, NoMemory}

abbrev pub refusal_code : FileError → ℕ
refusal_code Truncated = 20
refusal_code BadMagic = 21
refusal_code BadCpu = 22
refusal_code BadFlags = 23
refusal_code BadHeader = 24
refusal_code NoTotal = 25
refusal_code TooLarge = 26
refusal_code BadSymbols = 27
refusal_code NoMemory = 90

abbrev pub refusal_name : FileError → List ℕ
refusal_name Truncated = codes "Truncated"
refusal_name BadMagic = codes "BadMagic"
refusal_name BadCpu = codes "BadCpu"
refusal_name BadFlags = codes "BadFlags"
refusal_name BadHeader = codes "BadHeader"
refusal_name NoTotal = codes "NoTotal"
refusal_name TooLarge = codes "TooLarge"
refusal_name BadSymbols = codes "BadSymbols"
refusal_name NoMemory = codes "NoMemory"
