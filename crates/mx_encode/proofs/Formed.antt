-- What has a form has chosen bytes, and numbers put in keep form and widths.
use Rattle.std.proofs.Common.{◌≡◌, ℕ, ◌<◌, ◌^◌, true, List, Option, Some, None, refl, sym, ◌∙◌, IsTrue}
use Rattle.mx_insn.specs.declared.insn.Operand.{Operand}
use Rattle.mx_insn.specs.declared.insn.Operand.TheVariants as operand
use Rattle.mx_insn.specs.declared.insn.Operands.{Operands}
use Rattle.mx_insn.specs.declared.insn.Operands.TheVariants as operands
use Rattle.mx_insn.specs.declared.insn.Immediate.{Immediate}
use Rattle.mx_insn.specs.declared.insn.Immediate.TheVariants as immediate
use Rattle.mx_insn.specs.declared.insn.WideImmediate.{WideImmediate}
use Rattle.mx_insn.specs.declared.insn.WideImmediate.TheVariants as wide_immediates
use Rattle.mx_insn.specs.declared.insn.Insn.{Insn}
use Rattle.mx_insn.specs.declared.insn.Insn.TheVariants as insns
use Rattle.mx_insn.specs.Spelling.{spelling}
use Rattle.mx_encode.specs.declared.Wide.{Wide}
use Rattle.mx_encode.specs.Places.{can_stand}
use Rattle.mx_encode.specs.Forms.{has_form, operands_stand}
use Rattle.mx_encode.specs.Choice.{Choice, choice}
use Rattle.mx_encode.specs.Chosen.{Chosen, fields_of}
use Rattle.mx_encode.specs.Filled.{value_with, factor_with, operands_with_value, with_immediate, operand_with_displacement, operands_with_displacement, with_displacement, with_target, reaches}
use Rattle.mx_encode.specs.Given.{OperandFits, ImmediateFits, WideImmediateFits, OperandsFit, Fits}
use Rattle.mx_encode.proofs.Suits.{suits_spell}
use Rattle.mx_encode.proofs.Families.{SuitsWhere, choice_suits}
use Rattle.mx_encode.proofs.Each.{stands}
use Rattle.mx_encode.proofs.Formless.{form_is}

-- what has a form, and numbers as wide as their types, has a spelling that is chosen
pub formed_chosen : (i : Insn) (wide : Wide) → Fits i → has_form i ≡ true → (bytes : List ℕ) × Chosen i wide bytes
formed_chosen i wide fits form = go (choice i wide) refl (choice_suits i wide fits) (form_is i wide ∙ form)
  where
    go : (o : Option Choice) → choice i wide ≡ o → SuitsWhere o i → stands o ≡ true → (bytes : List ℕ) × Chosen i wide bytes
    go None e s h = absurd cc
    go (Some c) e s h = (
      spelling c.row (fields_of c wide.displacement),
      record { chosen = c; is_chosen = e; stands = h; spells = suits_spell c i wide.displacement s h },
    )

-- ---- an immediate

value_fits : (x : Immediate) (n : ℕ) → n < 2 ^ 32 → ImmediateFits x → ImmediateFits (value_with x n)
value_fits (immediate.Byte m) n lt fits = fits
value_fits (immediate.Word m) n lt fits = fits
value_fits (immediate.Dword m) n lt fits = lt

factor_fits : (x : WideImmediate) (n : ℕ) → n < 2 ^ 32 → WideImmediateFits x → WideImmediateFits (factor_with x n)
factor_fits (wide_immediates.Word m) n lt fits = fits
factor_fits (wide_immediates.Dword m) n lt fits = lt

valued_operands : (x : Operands) (n : ℕ) → n < 2 ^ 32 → OperandsFit x → OperandsFit (operands_with_value x n)
valued_operands (operands.ToRegister size to from) n lt fits = fits
valued_operands (operands.ToMemory size to from) n lt fits = fits
valued_operands (operands.Immediate to value) n lt fits = (fits.0, value_fits value n lt fits.1)

-- with a dword put in as its immediate, an instruction's numbers are still as wide as their types
pub valued_fits : (i : Insn) (n : ℕ) → n < 2 ^ 32 → Fits i → Fits (with_immediate i n)
valued_fits (insns.Arithmetic o x) n lt fits = valued_operands x n lt fits
valued_fits (insns.Move x) n lt fits = valued_operands x n lt fits
valued_fits (insns.TestImmediate o value) n lt fits = (fits.0, value_fits value n lt fits.1)
valued_fits (insns.MultiplyImmediate to from by) n lt fits = (fits.0, factor_fits by n lt fits.1)
valued_fits (insns.PushImmediate m) n lt fits = lt
valued_fits _ n lt fits = fits

-- ---- a displacement

operand_fits : (x : Operand) (n : ℕ) → n < 2 ^ 32 → OperandFits (operand_with_displacement x n)
operand_fits (operand.Register r) n lt = tt
operand_fits (operand.Memory m) n lt = lt

displaced_operands : (x : Operands) (n : ℕ) → n < 2 ^ 32 → OperandsFit x → OperandsFit (operands_with_displacement x n)
displaced_operands (operands.ToRegister size to from) n lt fits = operand_fits from n lt
displaced_operands (operands.ToMemory size to from) n lt fits = lt
displaced_operands (operands.Immediate to value) n lt fits = (operand_fits to n lt, fits.1)

-- and so with a dword put in as its displacement
pub displaced_fits : (i : Insn) (n : ℕ) → n < 2 ^ 32 → Fits i → Fits (with_displacement i n)
displaced_fits (insns.Arithmetic o x) n lt fits = displaced_operands x n lt fits
displaced_fits (insns.Move x) n lt fits = displaced_operands x n lt fits
displaced_fits (insns.Test size o r) n lt fits = operand_fits o n lt
displaced_fits (insns.TestImmediate o value) n lt fits = (operand_fits o n lt, fits.1)
displaced_fits (insns.Exchange size o r) n lt fits = operand_fits o n lt
displaced_fits (insns.LoadAddress size to m) n lt fits = lt
displaced_fits (insns.Unary o size x) n lt fits = operand_fits x n lt
displaced_fits (insns.Product o size x) n lt fits = operand_fits x n lt
displaced_fits (insns.Multiply size to from) n lt fits = operand_fits from n lt
displaced_fits (insns.MultiplyImmediate to from by) n lt fits = (operand_fits from n lt, fits.1)
displaced_fits (insns.Shift o size x count) n lt fits = (operand_fits x n lt, fits.1)
displaced_fits (insns.DoubleShift o x r count) n lt fits = (operand_fits x n lt, fits.1)
displaced_fits (insns.BitTest o x m) n lt fits = (operand_fits x n lt, fits.1)
displaced_fits (insns.BitScan o to from) n lt fits = operand_fits from n lt
displaced_fits (insns.ZeroExtend e to from) n lt fits = operand_fits from n lt
displaced_fits (insns.SignExtend e to from) n lt fits = operand_fits from n lt
displaced_fits (insns.SetCondition c o) n lt fits = operand_fits o n lt
displaced_fits (insns.Push o) n lt fits = operand_fits o n lt
displaced_fits (insns.JumpTo o) n lt fits = operand_fits o n lt
displaced_fits (insns.CallTo o) n lt fits = operand_fits o n lt
displaced_fits _ n lt fits = fits

-- ---- forms

valued_stand : (x : Operands) (n : ℕ) → operands_stand (operands_with_value x n) ≡ operands_stand x
valued_stand (operands.ToRegister size to from) n = refl
valued_stand (operands.ToMemory size to from) n = refl
valued_stand (operands.Immediate to value) n = refl

-- an immediate doesn't decide whether there is a form
pub immediate_keeps_form : (i : Insn) (n : ℕ) → has_form (with_immediate i n) ≡ has_form i
immediate_keeps_form (insns.Arithmetic o x) n = valued_stand x n
immediate_keeps_form (insns.Move x) n = valued_stand x n
immediate_keeps_form _ n = refl

displaced_stands : (x : Operand) (n : ℕ) → can_stand (operand_with_displacement x n) ≡ can_stand x
displaced_stands (operand.Register r) n = refl
displaced_stands (operand.Memory m) n = refl

displaced_stand : (x : Operands) (n : ℕ) → operands_stand (operands_with_displacement x n) ≡ operands_stand x
displaced_stand (operands.ToRegister size to from) n = displaced_stands from n
displaced_stand (operands.ToMemory size to from) n = refl
displaced_stand (operands.Immediate to value) n = displaced_stands to n

-- nor does a displacement in memory
pub displacement_keeps_form : (i : Insn) (n : ℕ) → has_form (with_displacement i n) ≡ has_form i
displacement_keeps_form (insns.Arithmetic o x) n = displaced_stand x n
displacement_keeps_form (insns.Move x) n = displaced_stand x n
displacement_keeps_form (insns.Test size o r) n = displaced_stands o n
displacement_keeps_form (insns.TestImmediate o value) n = displaced_stands o n
displacement_keeps_form (insns.Exchange size o r) n = displaced_stands o n
displacement_keeps_form (insns.Unary o size x) n = displaced_stands x n
displacement_keeps_form (insns.Product o size x) n = displaced_stands x n
displacement_keeps_form (insns.Multiply size to from) n = displaced_stands from n
displacement_keeps_form (insns.MultiplyImmediate to from by) n = displaced_stands from n
displacement_keeps_form (insns.Shift o size x count) n = displaced_stands x n
displacement_keeps_form (insns.DoubleShift o x r count) n = displaced_stands x n
displacement_keeps_form (insns.BitTest o x m) n = displaced_stands x n
displacement_keeps_form (insns.BitScan o to from) n = displaced_stands from n
displacement_keeps_form (insns.ZeroExtend e to from) n = displaced_stands from n
displacement_keeps_form (insns.SignExtend e to from) n = displaced_stands from n
displacement_keeps_form (insns.SetCondition c o) n = displaced_stands o n
displacement_keeps_form (insns.Push o) n = displaced_stands o n
displacement_keeps_form (insns.JumpTo o) n = displaced_stands o n
displacement_keeps_form (insns.CallTo o) n = displaced_stands o n
displacement_keeps_form _ n = refl

-- nor the distance, as long as a jump reaches its target
pub target_keeps_form : (i : Insn) (wide : Wide) (m n : ℕ) → IsTrue (reaches i wide m) → IsTrue (reaches i wide n) → has_form (with_target i n) ≡ has_form (with_target i m)
target_keeps_form (insns.Loop o k) wide m n x y = y ∙ sym x
target_keeps_form _ wide m n x y = refl
