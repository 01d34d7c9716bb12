-- What is spelled has a form: no spelling indexes by ESP, and none of LOOP and JECXZ goes too far.
use Rattle.std.proofs.Common.{◌≡◌, ℕ, zero, suc, ◌<◌, Bool, true, false, ◌&&◌, cond, eqb, List, [], ◌∷◌, length, Option, Some, None, refl, sym, ap, ◌∙◌, subst, arith, inl, inr}
use Rattle.std.specs.Prelude.{Contains, slice_index_or}
use Rattle.std.specs.List.{list_all}
use Rattle.std.proofs.lemmas.Bool.{and_parts, cond_both, cases_eq}
use Rattle.std.proofs.lemmas.List.Elements.{All-head}
use Rattle.mx_word.specs.Word.{value}
use Rattle.mx_word.specs.Names.{register_number}
use Rattle.mx_word.specs.declared.size.Size.{Size}
use Rattle.mx_word.specs.declared.names.Register.{Register}
use Rattle.mx_insn.specs.declared.insn.Operand.{Operand}
use Rattle.mx_insn.specs.declared.insn.Operand.TheVariants as operand
use Rattle.mx_insn.specs.declared.insn.Insn.{Insn}
use Rattle.mx_insn.specs.declared.row.Row.{Row}
use Rattle.mx_insn.specs.declared.row.SizeMark.{SizeMark}
use Rattle.mx_insn.specs.declared.row.SizeMark.TheVariants as sizes
use Rattle.mx_insn.specs.declared.row.ModRm.{ModRm}
use Rattle.mx_insn.specs.declared.row.ModRm.TheVariants.{Absent, Any, AnyMemory, AnyRegister, Only}
use Rattle.mx_insn.specs.declared.row.ImmediateColumn.{ImmediateColumn}
use Rattle.mx_insn.specs.declared.row.ImmediateColumn.TheVariants as columns
use Rattle.mx_insn.specs.declared.row.Pattern.{Pattern}
use Rattle.mx_insn.specs.declared.row.Pattern.TheVariants as patterns
use Rattle.mx_insn.specs.Table.{rows}
use Rattle.mx_insn.specs.Spelling.{Sib, RmForm, RmFormFits, RmFormStands, SibFits, AreBytes, Parts, Spells, index_of, operand_of, rm_operand, register, scale, sign_extended, immediate_length, immediate_value, row_size, made, parts, to_rm, memory_of}
use Rattle.mx_encode.specs.Numbers.{is_short}
use Rattle.mx_encode.specs.Places.{can_index, can_stand}
use Rattle.mx_encode.specs.Forms.{operands_stand, has_form}
use Rattle.mx_encode.proofs.Digits.{value_1}

-- ---- operands

number_again : (n : ℕ) → n < 8 → register_number (register n) ≡ n
number_again zero lt = refl
number_again (suc zero) lt = refl
number_again (suc (suc zero)) lt = refl
number_again (suc (suc (suc zero))) lt = refl
number_again (suc (suc (suc (suc zero)))) lt = refl
number_again (suc (suc (suc (suc (suc zero))))) lt = refl
number_again (suc (suc (suc (suc (suc (suc zero)))))) lt = refl
number_again (suc (suc (suc (suc (suc (suc (suc zero))))))) lt = refl
number_again (suc (suc (suc (suc (suc (suc (suc (suc n)))))))) lt = absurd (omega arith)

index_stands : (sib : Option Sib) → SibFits sib → can_index (index_of sib) ≡ true
index_stands None h = refl
index_stands (Some s) h = go (eqb s.index 4) refl
  where
    go : (b : Bool) → eqb s.index 4 ≡ b → can_index (cond b None (Some (record { register = register s.index; scale = scale s.scale }))) ≡ true
    go true e = refl
    go false e = rw (number_again s.index h.1, e) refl

operand_stands : (p : RmForm) → RmFormFits p → can_stand (operand_of p) ≡ true
operand_stands p fits =
    cond_both (eqb p.mode 3) _ _ (λ o. can_stand o ≡ true) (λ h. refl) (λ h. index_stands p.sib fits.sib)

rm_stands : (column : ModRm) (place : Option RmForm) → RmFormStands column place → can_stand (rm_operand place) ≡ true
rm_stands column None h = refl
rm_stands Absent (Some p) h = absurd h
rm_stands Any (Some p) h = operand_stands p h.0
rm_stands AnyMemory (Some p) h = operand_stands p h.0
rm_stands AnyRegister (Some p) h = operand_stands p h.0
rm_stands (Only n) (Some p) h = operand_stands p h.0

-- ---- LOOP and JECXZ

abbrev is_signed : ImmediateColumn → Bool
is_signed columns.SignedByte = true
is_signed _ = false

abbrev is_dword : SizeMark → Bool
is_dword sizes.Dword = true
is_dword _ = false

abbrev loop_sound : Pattern → ImmediateColumn → SizeMark → Bool
loop_sound (patterns.Loop o) column size = is_signed column && is_dword size
loop_sound _ column size = true

each_sound : list_all (λ (r : Row). loop_sound r.pattern r.immediate r.sizes) rows ≡ true
unfolding rows
each_sound = refl

all_at : (p : Row → Bool) (xs : List Row) (x : Row) (k : ℕ) → list_all p xs ≡ true → k < length xs → slice_index_or xs k x ≡ x → p x ≡ true
all_at p [] x k h lt e = absurd (omega (arith, lt))
all_at p (y ∷ ys) x zero h lt e = ap p (sym e) ∙ (and_parts _ _ h).0
all_at p (y ∷ ys) x (suc k) h lt e = all_at p ys x k (and_parts _ _ h).1 (omega (arith, lt)) e

sound_of : (r : Row) → Contains rows r → loop_sound r.pattern r.immediate r.sizes ≡ true
sound_of r (k, lt, e) = all_at (λ (z : Row). loop_sound z.pattern z.immediate z.sizes) rows r k each_sound lt e

abbrev all_below : (ℕ → Bool) → ℕ → Bool
all_below p zero = true
all_below p (suc n) = p n && all_below p n

at_each : (p : ℕ → Bool) (n k : ℕ) → all_below p n ≡ true → k < n → p k ≡ true
at_each p zero k h lt = absurd (omega arith)
at_each p (suc n) k h lt =
    elim (cases_eq k n) [
      | inl e ↦ ap p e ∙ (and_parts _ _ h).0
      | inr ne ↦ at_each p n k (and_parts _ _ h).1 (omega (arith, ne))
    ]

each_short : all_below (λ b. is_short 32 (sign_extended 32 b)) 256 ≡ true
each_short = refl

short_again : (bytes : List ℕ) → length bytes ≡ 1 → AreBytes bytes → is_short 32 (sign_extended 32 (value bytes)) ≡ true
short_again [] len small = absurd cc
short_again (x ∷ []) len small =
    ap (λ b. is_short 32 (sign_extended 32 b)) (value_1 x) ∙ at_each (λ b. is_short 32 (sign_extended 32 b)) 256 x each_short (All-head (λ b. b < 256) x [] small)
short_again (x ∷ (y ∷ rest)) len small = absurd (omega (arith, len))

abbrev LoopReads : Pattern → ℕ → Type 0
LoopReads (patterns.Loop o) n = is_short 32 n ≡ true
LoopReads _ n = Unit {0}

loop_value : (column : ImmediateColumn) (size : SizeMark) (resized : Bool) (bytes : List ℕ) → (is_signed column && is_dword size) ≡ true → length bytes ≡ immediate_length column resized → AreBytes bytes → is_short 32 (immediate_value column (row_size size resized) bytes) ≡ true
loop_value columns.SignedByte sizes.Dword resized bytes e len small = short_again bytes len small
loop_value columns.SignedByte sizes.Byte resized bytes e len small = absurd cc
loop_value columns.SignedByte sizes.Variable resized bytes e len small = absurd cc
loop_value columns.Nothing size resized bytes e len small = absurd cc
loop_value columns.Byte size resized bytes e len small = absurd cc
loop_value columns.Word size resized bytes e len small = absurd cc
loop_value columns.Dword size resized bytes e len small = absurd cc
loop_value columns.Variable size resized bytes e len small = absurd cc

loop_reads : (pattern : Pattern) (column : ImmediateColumn) (size : SizeMark) (resized : Bool) (bytes : List ℕ) → loop_sound pattern column size ≡ true → length bytes ≡ immediate_length column resized → AreBytes bytes → LoopReads pattern (immediate_value column (row_size size resized) bytes)
loop_reads (patterns.Loop o) column size resized bytes e len small = loop_value column size resized bytes e len small
loop_reads _ column size resized bytes e len small = tt

-- ---- every instruction column

to_rm_stands : (size : Size) (x : Operand) (r : Register) → can_stand x ≡ true → operands_stand (to_rm size x r) ≡ true
to_rm_stands size (operand.Register to) r h = refl
to_rm_stands size (operand.Memory m) r h = h

address_stands : (x : Operand) → can_stand x ≡ true → can_index (memory_of x).index ≡ true
address_stands (operand.Register r) h = refl
address_stands (operand.Memory m) h = h

made_stands : (pattern : Pattern) (size : Size) (p : Parts) → can_stand p.rm ≡ true → LoopReads pattern p.immediate → has_form (made pattern size p) ≡ true
made_stands patterns.ArithmeticRmReg size p h l = to_rm_stands size p.rm (register p.reg) h
made_stands patterns.ArithmeticRegRm size p h l = h
made_stands patterns.ArithmeticRmImmediate size p h l = h
made_stands patterns.MoveRmReg size p h l = to_rm_stands size p.rm (register p.reg) h
made_stands patterns.MoveRegRm size p h l = h
made_stands patterns.MoveRmImmediate size p h l = h
made_stands patterns.TestRmReg size p h l = h
made_stands patterns.TestRmImmediate size p h l = h
made_stands patterns.ExchangeRmReg size p h l = h
made_stands patterns.LoadAddress size p h l = address_stands p.rm h
made_stands (patterns.UnaryRm o) size p h l = h
made_stands (patterns.ProductRm o) size p h l = h
made_stands patterns.MultiplyRegRm size p h l = h
made_stands patterns.MultiplyRegRmImmediate size p h l = h
made_stands (patterns.ShiftRm o column) size p h l = h
made_stands (patterns.DoubleShiftRmReg o column) size p h l = h
made_stands (patterns.BitTestRmImmediate o) size p h l = h
made_stands (patterns.BitScanRegRm o) size p h l = h
made_stands patterns.ZeroExtendByte size p h l = h
made_stands patterns.ZeroExtendWord size p h l = h
made_stands patterns.SignExtendByte size p h l = h
made_stands patterns.SignExtendWord size p h l = h
made_stands patterns.SetCondition size p h l = h
made_stands patterns.PushRm size p h l = h
made_stands patterns.JumpRm size p h l = h
made_stands patterns.CallRm size p h l = h
made_stands (patterns.Loop o) size p h l = l
made_stands _ size p h l = refl

pub spelled_has_form : (i : Insn) (bytes : List ℕ) → Spells bytes i → has_form i ≡ true
spelled_has_form i bytes (row, f, s) =
    subst (λ (z : Insn). has_form z ≡ true) (sym s.means)
    (made_stands row.pattern (row_size row.sizes f.resized) (parts row f) (rm_stands row.modrm f.place s.fit.place) (loop_reads row.pattern row.immediate row.sizes f.resized f.immediate (sound_of row s.listed) s.fit.immediate s.fit.bytes))
