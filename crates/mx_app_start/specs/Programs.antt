-- The programs of a configuration, by the names of their files, and a history that is written over none of them (our
-- own).
use Rattle.std.specs.Prelude.{◌≡◌, ℕ, Bool, true, List, [], Some}
use Rattle.std.specs.List.{list_any}
use Rattle.std.specs.Str.{bytes_eq}
use Rattle.mx_boot.specs.Config.{Config}
use Rattle.mx_boot.specs.ServiceLine.{ServiceLine}
use Rattle.mx_app_failure.specs.declared.failure.Failure.{Failure}
use Rattle.mx_app_failure.specs.declared.failure.About.TheVariants.{Written as #Written}
use Rattle.mx_app_failure.specs.declared.failure.FileProblem.TheVariants.{OverProgram}
use Rattle.mx_app_failure.specs.Failure.{failure_if}
use Rattle.mx_app_start.specs.Written.{Written}

-- the program of one of its services is in the file of this name, byte for byte as the configuration has it
abbrev pub names_program : Config → List ℕ → Bool
names_program c name = list_any (λ (l : ServiceLine). bytes_eq l.file name) c.lines

-- such a file is to be written over
abbrev pub over_program : Failure
over_program = failure_if (Some OverProgram) #Written

-- such a file isn't written over: nothing is written or printed
abbrev pub SparesProgram : Config → List ℕ → List Written → (List ℕ → Type 0) → Failure → Type 0
SparesProgram c name ws Prints f = (names_program c name ≡ true) × (ws ≡ []) × Prints [] × (f ≡ over_program)
