-- A choice that suits an instruction spells it, whatever is marked.
use Rattle.std.proofs.Common.{◌≡◌, ℕ, ◌<◌, ◌^◌, ◌%◌, Bool, true, false, eqb, length, Option, Some, None, refl, sym, ◌∙◌, arith}
use Rattle.std.specs.Prelude.{Contains, not}
use Rattle.std.proofs.lemmas.Bool.{eq-eqb}
use Rattle.mx_word.specs.Word.{width}
use Rattle.mx_word.specs.declared.size.Size.{Size}
use Rattle.mx_word.specs.declared.size.Size.TheVariants.{Byte, Word, Dword}
use Rattle.mx_insn.specs.declared.insn.Operand.{Operand}
use Rattle.mx_insn.specs.declared.insn.Operand.TheVariants as operand
use Rattle.mx_insn.specs.declared.insn.Insn.{Insn}
use Rattle.mx_insn.specs.declared.row.Repeats.TheVariants.{Neither}
use Rattle.mx_insn.specs.declared.row.ModRm.{ModRm}
use Rattle.mx_insn.specs.declared.row.ModRm.TheVariants.{Absent, Any, AnyMemory, AnyRegister, Only}
use Rattle.mx_insn.specs.declared.row.ImmediateColumn.{ImmediateColumn}
use Rattle.mx_insn.specs.declared.row.ImmediateColumn.TheVariants as columns
use Rattle.mx_insn.specs.declared.row.Pattern.{Pattern}
use Rattle.mx_insn.specs.Table.{sized, sized_column, rows, no}
use Rattle.mx_insn.specs.Spelling.{Parts, RmFormStands, SpellsBy, AreBytes, accumulator, allows_resized, allows_repeat, row_size, immediate_length, immediate_value, made, reg_field, rm_operand, spelling}
use Rattle.mx_encode.specs.declared.fields.Number.{Number}
use Rattle.mx_encode.specs.declared.fields.Number.TheVariants as numbers
use Rattle.mx_encode.specs.declared.fields.Rm.{Rm}
use Rattle.mx_encode.specs.Numbers.{number_bytes, is_short, short, is_word}
use Rattle.mx_encode.specs.Places.{has_place, rm_form_for, rm_form_written}
use Rattle.mx_encode.specs.Choice.{Choice, with_rm}
use Rattle.mx_encode.specs.Chosen.{fields_of}
use Rattle.mx_encode.specs.Given.{OperandFits, RegFits}
use Rattle.mx_encode.proofs.Digits.{no_bytes, is_one_byte, are_bytes_of, value_1, value_2, value_4, value_short}
use Rattle.mx_encode.proofs.Standing.{place_fits, place_named, memory_mode}

-- ---- immediates

-- the bytes may be in the column, and give the number n
pub record Reads (column : ImmediateColumn) (resized : Bool) (size : Size) (x : Number) (n : ℕ) : Type 0 where
  pub long : length (number_bytes x) ≡ immediate_length column resized
  pub bytes : AreBytes (number_bytes x)
  pub gives : immediate_value column size (number_bytes x) ≡ n

pub reads_nothing : (resized : Bool) (size : Size) → Reads columns.Nothing resized size numbers.Nothing 0
reads_nothing resized size = record { long = refl; bytes = no_bytes; gives = refl }

pub reads_byte : (resized : Bool) (size : Size) (n : ℕ) → n < 2 ^ 8 → Reads columns.Byte resized size (numbers.Byte n) n
reads_byte resized size n lt = record { long = refl; bytes = is_one_byte n lt; gives = value_1 n }

pub reads_word : (resized : Bool) (size : Size) (n : ℕ) → n < 2 ^ 16 → Reads columns.Word resized size (numbers.Word n) n
reads_word resized size n lt = record { long = refl; bytes = are_bytes_of 2 n; gives = value_2 n lt }

pub reads_dword : (resized : Bool) (size : Size) (n : ℕ) → n < 2 ^ 32 → Reads columns.Dword resized size (numbers.Dword n) n
reads_dword resized size n lt = record { long = refl; bytes = are_bytes_of 4 n; gives = value_4 n lt }

pub reads_whole_word : (size : Size) (n : ℕ) → n < 2 ^ 16 → Reads columns.Variable true size (numbers.Word n) n
reads_whole_word size n lt = record { long = refl; bytes = are_bytes_of 2 n; gives = value_2 n lt }

pub reads_whole_dword : (size : Size) (n : ℕ) → n < 2 ^ 32 → Reads columns.Variable false size (numbers.Dword n) n
reads_whole_dword size n lt = record { long = refl; bytes = are_bytes_of 4 n; gives = value_4 n lt }

pub reads_short : (resized : Bool) (size : Size) (n : ℕ) → is_short (width size) n ≡ true → Reads columns.SignedByte resized size (short n) n
reads_short resized size n h = record { long = refl; bytes = is_one_byte (n % 256) (omega arith); gives = value_short (width size) n h }

-- ---- operands

abbrev pub is_memory : Operand → Bool
is_memory (operand.Register r) = false
is_memory (operand.Memory m) = true

-- the reg field and the operand may be in the column
abbrev pub RmSuits : ModRm → Option Rm → Type 0
RmSuits Absent None = Unit {0}
RmSuits Absent (Some rm) = ⊥
RmSuits Any None = ⊥
RmSuits Any (Some rm) = (rm.reg < 8) × OperandFits rm.operand
RmSuits AnyMemory None = ⊥
RmSuits AnyMemory (Some rm) = (rm.reg < 8) × OperandFits rm.operand × (is_memory rm.operand ≡ true)
RmSuits AnyRegister None = ⊥
RmSuits AnyRegister (Some rm) = (rm.reg < 8) × OperandFits rm.operand × (is_memory rm.operand ≡ false)
RmSuits (Only n) None = ⊥
RmSuits (Only n) (Some rm) = (rm.reg < 8) × OperandFits rm.operand × (n ≡ rm.reg)

reg_kept : (reg : ℕ) (o : Operand) (long : Bool) → (rm_form_written reg o long).reg ≡ reg
reg_kept reg (operand.Register r) long = refl
reg_kept reg (operand.Memory m) long = refl

mode_below : (reg : ℕ) (o : Operand) (long : Bool) → OperandFits o → is_memory o ≡ true → not (eqb (rm_form_written reg o long).mode 3) ≡ true
mode_below reg (operand.Register r) long fits h = absurd cc
mode_below reg (operand.Memory m) long fits h = rw (memory_mode reg m long fits) refl

mode_of_register : (reg : ℕ) (o : Operand) (long : Bool) → is_memory o ≡ false → eqb (rm_form_written reg o long).mode 3 ≡ true
mode_of_register reg (operand.Register r) long h = refl
mode_of_register reg (operand.Memory m) long h = absurd cc

stands : (column : ModRm) (rm : Option Rm) (long : Bool) → RmSuits column rm → RmFormStands column (rm_form_for rm long)
stands Absent None long s = tt
stands Absent (Some rm) long s = absurd s
stands Any None long s = absurd s
stands Any (Some rm) long s = (place_fits rm.reg rm.operand long s.0 s.1, refl)
stands AnyMemory None long s = absurd s
stands AnyMemory (Some rm) long s = (place_fits rm.reg rm.operand long s.0 s.1, mode_below rm.reg rm.operand long s.1 s.2)
stands AnyRegister None long s = absurd s
stands AnyRegister (Some rm) long s = (place_fits rm.reg rm.operand long s.0 s.1, mode_of_register rm.reg rm.operand long s.2)
stands (Only n) None long s = absurd s
stands (Only n) (Some rm) long s = (place_fits rm.reg rm.operand long s.0 s.1, eq-eqb n (rm_form_written rm.reg rm.operand long).reg (s.2 ∙ sym (reg_kept rm.reg rm.operand long)))

abbrev pub reg_of : Option Rm → ℕ
reg_of None = 0
reg_of (Some rm) = rm.reg

abbrev pub operand_in : Option Rm → Operand
operand_in None = accumulator
operand_in (Some rm) = rm.operand

suits_fit : (column : ModRm) (rm : Rm) → RmSuits column (Some rm) → (rm.reg < 8) × OperandFits rm.operand
suits_fit Absent rm s = absurd s
suits_fit Any rm s = s
suits_fit AnyMemory rm s = (s.0, s.1)
suits_fit AnyRegister rm s = (s.0, s.1)
suits_fit (Only n) rm s = (s.0, s.1)

pub suits_reg : (column : ModRm) (rm : Option Rm) → RmSuits column rm → RegFits rm
suits_reg column None s = tt
suits_reg column (Some rm) s = (suits_fit column rm s).0

reg_is : (rm : Option Rm) (long : Bool) → reg_field (rm_form_for rm long) ≡ reg_of rm
reg_is None long = refl
reg_is (Some rm) long = reg_kept rm.reg rm.operand long

operand_is : (column : ModRm) (rm : Option Rm) (long : Bool) → RmSuits column rm → has_place rm ≡ true → rm_operand (rm_form_for rm long) ≡ operand_in rm
operand_is column None long s h = refl
operand_is column (Some rm) long s h = place_named rm.reg rm.operand long h (suits_fit column rm s).1

-- ---- the whole

abbrev pub parts_of : Choice → ℕ → Parts
parts_of c n = record { resized = c.resized; repeat = c.repeat; number = c.number; reg = reg_of c.rm; rm = operand_in c.rm; immediate = n }

pub record Suits (c : Choice) (i : Insn) : Type 0 where
  pub listed : Contains rows c.row
  pub resized : allows_resized c.row.sizes c.resized ≡ true
  pub repeat : allows_repeat c.row.repeats c.repeat ≡ true
  pub number : c.number < c.row.count
  pub rm : RmSuits c.row.modrm c.rm
  pub value : ℕ
  pub reads : Reads c.row.immediate c.resized (row_size c.row.sizes c.resized) c.immediate value
  pub means : i ≡ made c.row.pattern (row_size c.row.sizes c.resized) (parts_of c value)

pub suits_spell : (c : Choice) (i : Insn) (long : Bool) → Suits c i → has_place c.rm ≡ true → SpellsBy c.row (fields_of c long) (spelling c.row (fields_of c long)) i
suits_spell c i long s h = record {
  listed = s.listed;
  fit = record { resized = s.resized; repeat = s.repeat; number = s.number; place = stands c.row.modrm c.rm long s.rm; immediate = s.reads.long; bytes = s.reads.bytes };
  bytes_are = refl;
  means = rw (reg_is c.rm long, operand_is c.row.modrm c.rm long s.rm h, s.reads.gives) s.means;
}

-- ---- rows that come in two sizes

sized_resized : (size : Size) → allows_resized (sized_column size) (is_word size) ≡ true
sized_resized Byte = refl
sized_resized Word = refl
sized_resized Dword = refl

sized_is : (size : Size) → row_size (sized_column size) (is_word size) ≡ size
sized_is Byte = refl
sized_is Word = refl
sized_is Dword = refl

pub sized_suits : (size : Size) (first step count : ℕ) (column : ModRm) (pattern : Pattern) (number reg : ℕ) (o : Operand) (i : Insn) → Contains rows (sized size first step count Neither column no pattern) → number < count → RmSuits column (Some (record { reg = reg; operand = o })) → i ≡ made pattern size (record { resized = is_word size; repeat = None; number = number; reg = reg; rm = o; immediate = 0 }) → Suits (with_rm (sized size first step count Neither column no pattern) (is_word size) number reg o numbers.Nothing) i
sized_suits size first step count column pattern number reg o i listed lt rm means = record {
  listed = listed;
  resized = sized_resized size;
  repeat = refl;
  number = lt;
  rm = rm;
  value = 0;
  reads = reads_nothing (is_word size) (row_size (sized_column size) (is_word size));
  means = rw (sized_is size) means;
}
