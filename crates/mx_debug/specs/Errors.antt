-- The numbers and names of what a debugger refuses (our own).
use Rattle.std.specs.Prelude.{ℕ, List, codes}
use Rattle.mx_debug.specs.declared.error.DebugError.{DebugError}
use Rattle.mx_debug.specs.declared.error.DebugError.TheVariants.{NoSymbol, NotHere, TooMany}

abbrev pub error_code : DebugError → ℕ
error_code NoSymbol = 60
error_code NotHere = 61
error_code TooMany = 62

abbrev pub error_name : DebugError → List ℕ
error_name NoSymbol = codes "NoSymbol"
error_name NotHere = codes "NotHere"
error_name TooMany = codes "TooMany"
