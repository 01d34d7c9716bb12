-- The lines of the code from an address of a process on (our own).
use Rattle.std.specs.Prelude.{ℕ, zero, suc, List, [], ◌++◌, Option, Some, None}
use Rattle.mx_aout.specs.declared.program.Symbol.{Symbol}
use Rattle.mx_dis.specs.declared.part.Part.{Part}
use Rattle.mx_dis.specs.Parting.{part_size}
use Rattle.mx_exec.specs.declared.image.Image.{Image}
use Rattle.mx_exec.specs.Image.{dword_sum}
use Rattle.mx_look.specs.Code.{code_line, code_part}

-- a line, and those after it, if there is code
abbrev pub and_lines : List ℕ → Option Part → ℕ → (ℕ → List ℕ) → List ℕ
and_lines line None at lines = []
and_lines line (Some p) at lines = line ++ lines (dword_sum at (part_size p))

-- THE LINES of this many instructions from an address on, up to where the code ends
abbrev pub code_lines : ℕ → List Symbol → Image → ℕ → List ℕ
code_lines zero symbols m at = []
code_lines (suc n) symbols m at = and_lines (code_line symbols m at) (code_part m at) at (code_lines n symbols m)
