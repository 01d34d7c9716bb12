-- The numbers of a text's faults (our own).
use Rattle.std.specs.Prelude.{ℕ}
use Rattle.mx_text.specs.declared.error.BootError.{BootError}
use Rattle.mx_text.specs.declared.error.BootError.TheVariants.{BadLine, TwiceNamed, TooMany, BadRecord, NoMemory}

abbrev pub boot_code_of : BootError → ℕ
boot_code_of (BadLine n) = 70
boot_code_of (TwiceNamed n) = 71
boot_code_of (TooMany n) = 72
boot_code_of (BadRecord n) = 73
boot_code_of NoMemory = 90
