-- Registers of three sizes (manual, 2.3.1 and 17.2.1), and the words that name a size.
use Rattle.std.specs.Prelude.{ℕ, List, codes}
use Rattle.mx_word.specs.declared.size.Size.{Size}
use Rattle.mx_word.specs.declared.size.Size.TheVariants.{Byte, Word, Dword}
use Rattle.mx_word.specs.declared.names.Register.{Register}
use Rattle.mx_word.specs.declared.names.Register.TheVariants.{Eax, Ecx, Edx, Ebx, Esp, Ebp, Esi, Edi}

abbrev pub register_word : Size → Register → List ℕ
register_word Byte Eax = codes "al"
register_word Byte Ecx = codes "cl"
register_word Byte Edx = codes "dl"
register_word Byte Ebx = codes "bl"
register_word Byte Esp = codes "ah"
register_word Byte Ebp = codes "ch"
register_word Byte Esi = codes "dh"
register_word Byte Edi = codes "bh"
register_word Word Eax = codes "ax"
register_word Word Ecx = codes "cx"
register_word Word Edx = codes "dx"
register_word Word Ebx = codes "bx"
register_word Word Esp = codes "sp"
register_word Word Ebp = codes "bp"
register_word Word Esi = codes "si"
register_word Word Edi = codes "di"
register_word Dword Eax = codes "eax"
register_word Dword Ecx = codes "ecx"
register_word Dword Edx = codes "edx"
register_word Dword Ebx = codes "ebx"
register_word Dword Esp = codes "esp"
register_word Dword Ebp = codes "ebp"
register_word Dword Esi = codes "esi"
register_word Dword Edi = codes "edi"

abbrev pub size_word : Size → List ℕ
size_word Byte = codes "byte"
size_word Word = codes "word"
size_word Dword = codes "dword"
