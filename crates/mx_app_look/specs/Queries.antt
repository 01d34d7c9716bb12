-- What is asked for of a slot's process (our own).
use Rattle.std.specs.Prelude.{ℕ, List, [], ◌∷◌, Option, Some, None}
use Rattle.mx_text.specs.Fields.{only, pair, ◌>>=◌}
use Rattle.mx_boot.specs.Script.{count_field, only_count}
use Rattle.mx_app_look.specs.declared.query.Query.{Query}
use Rattle.mx_app_look.specs.declared.query.Query.TheVariants.{Code, Memory, Registers, Stack, Variable}
use Rattle.mx_boot.specs.Addresses.{address_of_word, symbol_name}
use Rattle.mx_machine.specs.Service.{Service}
use Rattle.mx_app_look.specs.SlotWords.{only_slot, slot_of_word}

-- regs [SLOT]
abbrev pub registers_of_fields : List Service → List (List ℕ) → Option Query
registers_of_fields services [] = Some (Registers None)
registers_of_fields services (f ∷ fs) = do
  s ← only_slot services (f ∷ fs)
  Some (Registers (Some s))

-- mem SLOT ADDRESS N
abbrev pub memory_of_fields : List Service → List (List ℕ) → Option Query
memory_of_fields services [] = None
memory_of_fields services (f ∷ fs) = do
  s ← slot_of_word services f
  p ← pair fs
  m ← address_of_word p.0
  n ← count_field p.1
  Some (Memory s m n)

-- list [SLOT [PLACE]]
abbrev pub code_of_slot : ℕ → List (List ℕ) → Option Query
code_of_slot s [] = Some (Code (Some s) None)
code_of_slot s (f ∷ fs) = do
  g ← only (f ∷ fs)
  m ← address_of_word g
  Some (Code (Some s) (Some m))

abbrev pub code_of_fields : List Service → List (List ℕ) → Option Query
code_of_fields services [] = Some (Code None None)
code_of_fields services (f ∷ fs) = do
  s ← slot_of_word services f
  code_of_slot s fs

-- stack [SLOT [N]]: eight dwords without N
abbrev pub stack_of_slot : ℕ → List (List ℕ) → Option Query
stack_of_slot s [] = Some (Stack (Some s) 8)
stack_of_slot s (f ∷ fs) = do
  n ← only_count (f ∷ fs)
  Some (Stack (Some s) n)

abbrev pub stack_of_fields : List Service → List (List ℕ) → Option Query
stack_of_fields services [] = Some (Stack None 8)
stack_of_fields services (f ∷ fs) = do
  s ← slot_of_word services f
  stack_of_slot s fs

-- print SLOT NAME
abbrev pub variable_of_fields : List Service → List (List ℕ) → Option Query
variable_of_fields services fs = do
  p ← pair fs
  s ← slot_of_word services p.0
  Some (Variable s (symbol_name p.1))
