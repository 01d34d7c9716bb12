-- How an operand is encoded in ModRM, SIB and displacement (manual, 17.2.1).
use Rattle.std.specs.Prelude.{ℕ, ◌==◌, Bool, true, false, not, ◌&&◌, if◌then◌else◌, [], Option, Some, None}
use Rattle.mx_word.specs.Word.{bytes_of}
use Rattle.mx_word.specs.Names.{register_number}
use Rattle.mx_word.specs.declared.names.Register.{Register}
use Rattle.mx_insn.specs.declared.insn.Index.{Index}
use Rattle.mx_insn.specs.declared.insn.Memory.{Memory}
use Rattle.mx_insn.specs.declared.insn.Operand.{Operand}
use Rattle.mx_insn.specs.declared.insn.Operand.TheVariants as operand
use Rattle.mx_insn.specs.Spelling.{Sib, RmForm, displacement_length}
use Rattle.mx_encode.specs.Numbers.{scale_number, is_short}
use Rattle.mx_encode.specs.declared.fields.Rm.{Rm}

-- without a base the base field is 101
abbrev pub base_number : Option Register → ℕ
base_number None = 5
base_number (Some r) = register_number r

-- a SIB byte only if there is an index, or the base is ESP, whose number means that one follows; without an
-- index its index field is 100 and its scale bits are 0
abbrev pub sib_of : Option Register → Option Index → Option Sib
sib_of base (Some i) =
    Some (record { scale = scale_number i.scale; index = register_number i.register; base = base_number base })
sib_of base None = if base_number base == 4 then Some (record { scale = 0; index = 4; base = 4 }) else None

abbrev pub rm_number : Option Register → Option Sib → ℕ
rm_number base None = base_number base
rm_number base (Some s) = 4

-- after a base other than EBP a displacement of 0 is left out, one that is a byte with its sign extended
-- takes mod 01, and another, or one that is marked wide, mod 10
abbrev pub mode_after : ℕ → ℕ → Bool → ℕ
mode_after base displacement true = 2
mode_after base displacement false =
    if (displacement == 0) && not (base == 5) then 0
    else (if is_short 32 displacement then 1 else 2)

-- without a base mod is 00, and the displacement has 32 bits
abbrev pub mode_of : Option Register → ℕ → Bool → ℕ
mode_of None displacement long = 0
mode_of (Some r) displacement long = mode_after (register_number r) displacement long

abbrev pub memory_rm_form : ℕ → Memory → Bool → RmForm
memory_rm_form reg m long = record {
  mode = mode_of m.base m.displacement long;
  reg = reg;
  rm = rm_number m.base (sib_of m.base m.index);
  sib = sib_of m.base m.index;
  displacement =
      bytes_of (displacement_length (mode_of m.base m.displacement long) (base_number m.base)) m.displacement;
}

-- by the reg field, the operand, and the mark on its displacement
abbrev pub rm_form_written : ℕ → Operand → Bool → RmForm
rm_form_written reg (operand.Register r) long =
    record { mode = 3; reg = reg; rm = register_number r; sib = None; displacement = [] }
rm_form_written reg (operand.Memory m) long = memory_rm_form reg m long

abbrev pub rm_form_for : Option Rm → Bool → Option RmForm
rm_form_for None long = None
rm_form_for (Some rm) long = Some (rm_form_written rm.reg rm.operand long)

-- ---- what has no place

-- ESP is no index: its number means that there is none
abbrev pub can_index : Option Index → Bool
can_index None = true
can_index (Some i) = not (register_number i.register == 4)

abbrev pub can_stand : Operand → Bool
can_stand (operand.Register r) = true
can_stand (operand.Memory m) = can_index m.index

abbrev pub has_place : Option Rm → Bool
has_place None = true
has_place (Some rm) = can_stand rm.operand
