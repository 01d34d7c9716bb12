-- A number that is put in is part of what is chosen.
use Rattle.std.proofs.Common.{◌≡◌, ℕ, Bool, true, false, Option, Some, None, refl, ap, ◌∙◌, IsTrue}
use Rattle.mx_insn.specs.declared.insn.Operand.TheVariants as operand
use Rattle.mx_insn.specs.declared.insn.Insn.{Insn}
use Rattle.mx_encode.specs.declared.Wide.{Wide}
use Rattle.mx_encode.specs.declared.fields.Rm.{Rm}
use Rattle.mx_encode.specs.Choice.{Choice, choice}
use Rattle.mx_encode.specs.Filled.{operand_with_displacement, with_displacement, with_immediate}
use Rattle.mx_encode.specs.Held.{dword_in, displacement_beside, displacement_in, in_place_of, is_jump}
use Rattle.mx_encode.proofs.Each.{rm_at, given_at, each}

-- ---- a displacement

beside_at : (rm : Option Rm) (n : ℕ) → displacement_beside (rm_at rm n) ≡ in_place_of (displacement_beside rm) n
beside_at None n = refl
beside_at (Some rm) n = elim rm.operand as (λ o. displacement_beside (Some (record { reg = rm.reg; operand = operand_with_displacement o n })) ≡ in_place_of (displacement_beside (Some (record { reg = rm.reg; operand = o }))) n) [
  | operand.Register r ↦ refl
  | operand.Memory m ↦ refl
]

in_at : (c : Option Choice) (n : ℕ) → displacement_in (given_at c n) ≡ in_place_of (displacement_in c) n
in_at None n = refl
in_at (Some c) n = beside_at c.rm n

displacement_held : (i : Insn) (short long : Bool) (n : ℕ) → IsTrue long
    → displacement_in (choice (with_displacement i n) (record { immediate = short; displacement = long })) ≡ in_place_of (displacement_in (choice i (record { immediate = short; displacement = long }))) n
displacement_held i short true n h = ap displacement_in ((each i).stays short n) ∙ in_at (choice i (record { immediate = short; displacement = true })) n
displacement_held i short false n h = cc

-- if the encoding has a displacement of memory and it is marked wide, the encoding with another one put in has that one there
pub displacement_is_held : (i : Insn) (wide : Wide) (n : ℕ) → IsTrue wide.displacement → displacement_in (choice (with_displacement i n) wide) ≡ in_place_of (displacement_in (choice i wide)) n
displacement_is_held i wide n h = displacement_held i wide.immediate wide.displacement n h

-- ---- an immediate

immediate_held : (i : Insn) (short long : Bool) (n : ℕ) → IsTrue short → is_jump i ≡ false
    → dword_in (choice (with_immediate i n) (record { immediate = short; displacement = long })) ≡ in_place_of (dword_in (choice i (record { immediate = short; displacement = long }))) n
immediate_held i true long n h none = (each i).held long n none
immediate_held i false long n h none = cc

-- if the encoding has a dword as its immediate and it is marked wide, the encoding with another dword put in has that one there.
-- Jumps are left out: the number in them is a distance
pub immediate_is_held : (i : Insn) (wide : Wide) (n : ℕ) → IsTrue wide.immediate → is_jump i ≡ false → dword_in (choice (with_immediate i n) wide) ≡ in_place_of (dword_in (choice i wide)) n
immediate_is_held i wide n h none = immediate_held i wide.immediate wide.displacement n h none
