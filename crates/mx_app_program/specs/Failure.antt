-- Why a text's roundtrip fails.
use Rattle.std.specs.Prelude.{ℕ, List, ⊤}
use Rattle.mx_asm.specs.declared.fault.AsmError.{AsmError}
use Rattle.mx_asm.specs.declared.fault.AsmError.TheVariants as assembling
use Rattle.mx_asm.specs.Text.{HasTextFault}
use Rattle.mx_app_program.specs.declared.error.AroundError.{AroundError}
use Rattle.mx_app_program.specs.declared.error.AroundError.TheVariants.{Text, NoMemory}

abbrev pub error_of : AsmError → AroundError
error_of (assembling.At f) = Text f
error_of assembling.NoMemory = NoMemory

-- the error of a text is its first fault, and no other, unless memory runs out
abbrev pub TellsWhy : List ℕ → AroundError → Type 0
TellsWhy t NoMemory = ⊤
TellsWhy t (Text f) = HasTextFault t f
