-- Lines that drive a machine, of whatever grammar: what they do in a row, and what is printed of them (our own).
use Rattle.std.specs.Prelude.{ℕ, ◌+◌, Bool, true, false, List, [], ◌∷◌, ◌++◌, codes}
use Rattle.std.specs.Fmt.{decimal}
use Rattle.mx_app_start.specs.Machine.{MachineState, world_of}
use Rattle.mx_machine.specs.History.{BootAndHistory}
use Rattle.mx_machine.specs.World.{World}

-- A world, what its kernel keeps, and what performs lines on it.
pub record Driven (P : Type 0) : Type 0 where
  pub world : World
  pub kernel : BootAndHistory
  pub own : P

abbrev pub driven : {P : Type 0} → MachineState → P → Driven P
driven m p = record { world = world_of m; kernel = m.kernel; own = p }

-- what lines in a row do, if `does` says it of one
abbrev pub lines_done : {S L : Type 0} → (S → L → S) → S → List L → S
lines_done does s [] = s
lines_done does s (l ∷ ls) = lines_done does (does s l) ls

-- the number of a line before its answer, if answers are numbered: `3: `
abbrev pub number_text : Bool → ℕ → List ℕ
number_text true n = decimal n ++ codes ": "
number_text false n = []

-- what lines in a row print, if `prints` is what one prints; the first is line n
abbrev pub lines_text : {S L : Type 0} → (S → L → S) → (S → L → List ℕ) → Bool → ℕ → S → List L → List ℕ
lines_text does prints numbered n s [] = []
lines_text does prints numbered n s (l ∷ ls) =
    (number_text numbered n ++ prints s l) ++ lines_text does prints numbered (n + 1) (does s l) ls
