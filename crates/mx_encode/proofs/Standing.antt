-- The bytes of a place name the operand that they were made of.
use Rattle.std.proofs.Common.{◌≡◌, ℕ, ◌^◌, ◌<◌, Bool, true, false, ◌&&◌, cond, eqb, Option, Some, None, refl, sym, ap, ◌∙◌, arith, lit<}
use Rattle.std.specs.Prelude.{not, is_some}
use Rattle.std.proofs.lemmas.Bool.{eqb-true, ne_eqb, and_parts, not-true}
use Rattle.mx_word.specs.Word.{bytes_of}
use Rattle.mx_word.specs.Names.{register_number}
use Rattle.mx_word.specs.declared.names.Register.{Register}
use Rattle.mx_insn.specs.declared.insn.Index.{Index}
use Rattle.mx_insn.specs.declared.insn.Memory.{Memory}
use Rattle.mx_insn.specs.declared.insn.Operand.{Operand}
use Rattle.mx_insn.specs.declared.insn.Operand.TheVariants as operand
use Rattle.mx_insn.specs.Spelling.{Sib, RmFormFits, SibFits, has_sib, base_field, base_of, index_of, displacement_length, displacement_of, operand_of}
use Rattle.mx_encode.specs.Numbers.{is_short}
use Rattle.mx_encode.specs.Places.{base_number, sib_of, rm_number, mode_after, mode_of, memory_rm_form, rm_form_written, can_index, can_stand}
use Rattle.mx_encode.specs.Given.{OperandFits}
use Rattle.mx_encode.proofs.Digits.{no_bytes, are_bytes_of, length-bytes_of, value_4, value_short, register_below, register_again, scale_below, scale_again}

-- ---- mod and the displacement

-- what mod must do for a base field and a displacement
record ModeSuits (mode base n : ℕ) : Type 0 where
  below : mode < 3
  keeps_base : ((eqb mode 0) && (eqb base 5)) ≡ false
  gives : displacement_of mode (bytes_of (displacement_length mode base) n) ≡ n

mode_suits : (base n : ℕ) (long : Bool) → n < 2 ^ 32 → ModeSuits (mode_after base n long) base n
mode_suits base n true lt = record { below = lit< tt; keeps_base = refl; gives = value_4 n lt }
mode_suits base n false lt = none (eqb n 0 && not (eqb base 5)) refl
  where
    byte : (b : Bool) → is_short 32 n ≡ b → ModeSuits (cond b 1 2) base n
    byte true e = record { below = lit< tt; keeps_base = refl; gives = value_short 32 n e }
    byte false e = record { below = lit< tt; keeps_base = refl; gives = value_4 n lt }

    none : (b : Bool) → (eqb n 0 && not (eqb base 5)) ≡ b → ModeSuits (cond b 0 (cond (is_short 32 n) 1 2)) base n
    none true e =
        let both = and_parts (eqb n 0) (not (eqb base 5)) e in
        let other = not-true (eqb base 5) both.1 in
        record { below = lit< tt; keeps_base = other; gives = rw other (sym (eqb-true n 0 both.0)) }
    none false e = byte (is_short 32 n) refl

-- ---- the SIB byte

sib_again : (base : Option Register) (index : Option Index) → can_index index ≡ true → index_of (sib_of base index) ≡ index
sib_again base (Some i) h =
    rw (register_again i.register, scale_again i.scale, not-true (eqb (register_number i.register) 4) h) refl
sib_again base None h =
    elim (eqb (base_number base) 4) as (λ b. index_of (cond b (Some (record { scale = 0; index = 4; base = 4 })) None) ≡ None) [ true ↦ refl | false ↦ refl ]

base_below : (base : Option Register) → base_number base < 8
base_below None = lit< tt
base_below (Some r) = register_below r

base_again : (base : Option Register) (index : Option Index) → base_field (rm_number base (sib_of base index)) (sib_of base index) ≡ base_number base
base_again base (Some i) = refl
base_again base None = go (eqb (base_number base) 4) refl
  where
    go : (b : Bool) → eqb (base_number base) 4 ≡ b → base_field (rm_number base (cond b (Some (record { scale = 0; index = 4; base = 4 })) None)) (cond b (Some (record { scale = 0; index = 4; base = 4 })) None) ≡ base_number base
    go true e = sym (eqb-true (base_number base) 4 e)
    go false e = refl

sib_fits : (base : Option Register) (index : Option Index) → SibFits (sib_of base index)
sib_fits base (Some i) = (scale_below i.scale, register_below i.register, base_below base)
sib_fits base None =
    elim (eqb (base_number base) 4) as (λ b. SibFits (cond b (Some (record { scale = 0; index = 4; base = 4 })) None)) [ true ↦ (lit< tt, lit< tt, lit< tt) | false ↦ tt ]

rm_below : (base : Option Register) (sib : Option Sib) → rm_number base sib < 8
rm_below base None = base_below base
rm_below base (Some s) = lit< tt

-- rm is 100 just where there is a SIB byte
rm_has_sib : (base : Option Register) (index : Option Index) → is_some (sib_of base index) ≡ eqb (rm_number base (sib_of base index)) 4
rm_has_sib base (Some i) = refl
rm_has_sib base None = go (eqb (base_number base) 4) refl
  where
    go : (b : Bool) → eqb (base_number base) 4 ≡ b → is_some {T = Sib} (cond b (Some (record { scale = 0; index = 4; base = 4 })) None) ≡ eqb (rm_number base (cond b (Some (record { scale = 0; index = 4; base = 4 })) None)) 4
    go true e = refl
    go false e = sym e

has_sib_below : (mode rm : ℕ) → mode < 3 → has_sib mode rm ≡ eqb rm 4
has_sib_below mode rm lt = rw (ne_eqb mode 3 (λ e. omega arith)) refl

-- ---- memory

mode_of_suits : (base : Option Register) (n : ℕ) (long : Bool) → n < 2 ^ 32 → (mode_of base n long < 3) × (base_of (mode_of base n long) (base_number base) ≡ base) × (displacement_of (mode_of base n long) (bytes_of (displacement_length (mode_of base n long) (base_number base)) n) ≡ n)
mode_of_suits None n long lt = (lit< tt, refl, value_4 n lt)
mode_of_suits (Some r) n long lt =
    let s = mode_suits (register_number r) n long lt in
    (s.below, rw (s.keeps_base, register_again r) refl, s.gives)

memory_fits : (reg : ℕ) (m : Memory) (long : Bool) → reg < 8 → m.displacement < 2 ^ 32 → RmFormFits (memory_rm_form reg m long)
memory_fits reg m long small lt =
    let s = mode_of_suits m.base m.displacement long lt in
    let below : mode_of m.base m.displacement long < 3 = s.0 in
    record {
      mode = omega (arith, below);
      reg = small;
      rm = rm_below m.base (sib_of m.base m.index);
      has_sib = rm_has_sib m.base m.index ∙ sym (has_sib_below (mode_of m.base m.displacement long) (rm_number m.base (sib_of m.base m.index)) below);
      sib = sib_fits m.base m.index;
      displacement = length-bytes_of (displacement_length (mode_of m.base m.displacement long) (base_number m.base)) m.displacement ∙ ap (displacement_length (mode_of m.base m.displacement long)) (sym (base_again m.base m.index));
      bytes = are_bytes_of (displacement_length (mode_of m.base m.displacement long) (base_number m.base)) m.displacement;
    }

memory_named : (reg : ℕ) (m : Memory) (long : Bool) → can_index m.index ≡ true → m.displacement < 2 ^ 32 → operand_of (memory_rm_form reg m long) ≡ operand.Memory m
memory_named reg m long can lt =
    let s = mode_of_suits m.base m.displacement long lt in
    let below : mode_of m.base m.displacement long < 3 = s.0 in
    rw (base_again m.base m.index, s.1, s.2, sib_again m.base m.index can, ne_eqb (mode_of m.base m.displacement long) 3 (λ e. omega arith)) refl

-- ---- operands

pub place_fits : (reg : ℕ) (o : Operand) (long : Bool) → reg < 8 → OperandFits o → RmFormFits (rm_form_written reg o long)
place_fits reg (operand.Register r) long small fits = record { mode = lit< tt; reg = small; rm = register_below r; has_sib = refl; sib = tt; displacement = refl; bytes = no_bytes }
place_fits reg (operand.Memory m) long small fits = memory_fits reg m long small fits

pub place_named : (reg : ℕ) (o : Operand) (long : Bool) → can_stand o ≡ true → OperandFits o → operand_of (rm_form_written reg o long) ≡ o
place_named reg (operand.Register r) long can fits = ap operand.Register (register_again r)
place_named reg (operand.Memory m) long can fits = memory_named reg m long can fits

-- LEA's mod is not 11
pub memory_mode : (reg : ℕ) (m : Memory) (long : Bool) → m.displacement < 2 ^ 32 → eqb (rm_form_written reg (operand.Memory m) long).mode 3 ≡ false
memory_mode reg m long lt =
    let s = mode_of_suits m.base m.displacement long lt in
    let below : mode_of m.base m.displacement long < 3 = s.0 in
    ne_eqb (mode_of m.base m.displacement long) 3 (λ e. omega arith)
