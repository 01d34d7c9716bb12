-- Two tables that are the same but for the image of one process, as their proofs go along them: slot by slot, with a flag
-- that says of each whether its image is hidden.
use Rattle.std.specs.Prelude.{◌≡◌, ℕ, zero, suc, Bool, true, false, List, [], ◌∷◌, length}
use Rattle.mx_exec.specs.declared.image.Image.{Image}
use Rattle.mx_exec.specs.Image.{blank}
use Rattle.mx_proc.specs.declared.process.Process.{Process}
use Rattle.mx_proc.specs.Sound.{HasBuffer}
use Rattle.mx_proc.specs.States.{is_blocked}
use Rattle.mx_proc.specs.TableState.{TableState}
use Rattle.mx_laws.specs.Same.{rest_of}

-- an image as it is seen: blank where it is hidden
abbrev pub image_seen : Bool → Image → Image
image_seen true m = blank
image_seen false m = m

-- a process with its image as it is seen
abbrev pub process_seen : Bool → Process → Process
process_seen hidden p = record p { image = image_seen hidden p.image }

-- whether two numbers are one
abbrev pub is_slot : ℕ → ℕ → Bool
is_slot zero zero = true
is_slot zero (suc s) = false
is_slot (suc q) zero = false
is_slot (suc q) (suc s) = is_slot q s

-- who waits with a buffer has it inside
abbrev pub HasRoom : Bool → Process → Type 0
HasRoom hidden p = hidden ≡ true → is_blocked p.state ≡ true → HasBuffer p

-- Two processes that are the same but for an image that is hidden; limits are equal.
pub record Alike (hidden : Bool) (p r : Process) : Type 0 where
  pub same : process_seen hidden p ≡ process_seen hidden r
  pub limit : length p.image.memory ≡ length r.image.memory
  pub left : HasRoom hidden p
  pub right : HasRoom hidden r

-- in slot q alike, in every other slot the same
abbrev pub AllAlike : ℕ → List Process → List Process → Type 0
AllAlike q [] [] = Unit {0}
AllAlike q [] (r ∷ rs) = ⊥
AllAlike q (p ∷ ps) [] = ⊥
AllAlike zero (p ∷ ps) (r ∷ rs) = Alike true p r × (ps ≡ rs)
AllAlike (suc q) (p ∷ ps) (r ∷ rs) = (p ≡ r) × AllAlike q ps rs

-- TWINS: the same but for the image of the process in slot q
pub record Twins (q : ℕ) (w v : TableState) : Type 0 where
  pub rest : rest_of w ≡ rest_of v
  pub slots : AllAlike q w.slots v.slots
