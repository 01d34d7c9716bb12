-- What is answered of a text for the assembler.
use Rattle.std.specs.Prelude.{◌≡◌, ◌⊎◌, ℕ, List, Some}
use Rattle.std.specs.Str.{IsUtf8}
use Rattle.mx_aout.specs.declared.program.Program.{Program}
use Rattle.mx_aout.specs.File.{FileIs}
use Rattle.mx_aout.specs.Written.{short_file}
use Rattle.mx_asm.specs.Text.{IsAssembled, HasTextFault}
use Rattle.mx_app_failure.specs.declared.failure.Failure.{Failure as Kind}
use Rattle.mx_app_failure.specs.declared.failure.Failure.TheVariants.{NoMemory}
use Rattle.mx_app_failure.specs.declared.failure.About.TheVariants.{Source}
use Rattle.mx_app_failure.specs.declared.failure.FileProblem.TheVariants.{Faulty}
use Rattle.mx_app_failure.specs.Failure.{IsOfText, failure_if, problem_of_bytes}
use Rattle.mx_asm.specs.declared.fault.Fault.{Fault}

-- the bytes are the short form of a file of the program that the text is assembled to
abbrev pub IsAssembledFile : List ℕ → List ℕ → Type 0
IsAssembledFile text bytes = (p : Program) × IsAssembled text p × FileIs bytes p × (bytes ≡ short_file p)

-- the text's first fault, or that it isn't UTF-8; out of memory only if it is
abbrev pub TellsText : List ℕ → Kind → Type 0
TellsText text f =
    ((¬ (IsUtf8 text)) × (f ≡ failure_if (Some (problem_of_bytes text)) Source))
    ⊎ (((x : Fault) × HasTextFault text x × IsOfText (Faulty x) Source text f)
    ⊎ (IsUtf8 text × (f ≡ NoMemory)))
