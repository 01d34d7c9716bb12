-- What holds of the choice for each instruction, by cases: whether it has a place, and what a number that is put in changes.
use Rattle.std.proofs.Common.{◌≡◌, ℕ, Bool, true, false, cond, eqb, Option, Some, None, refl, ap, ◌∙◌}
use Rattle.std.proofs.lemmas.Bool.{cond_both}
use Rattle.mx_word.specs.declared.size.Size.TheVariants.{Byte, Word, Dword}
use Rattle.mx_word.specs.declared.names.Unary.TheVariants.{Inc, Dec, Not, Neg}
use Rattle.mx_insn.specs.declared.insn.Operand.TheVariants as operand
use Rattle.mx_insn.specs.declared.insn.Operands.TheVariants as operands
use Rattle.mx_insn.specs.declared.insn.Immediate.TheVariants as immediate
use Rattle.mx_insn.specs.declared.insn.WideImmediate.TheVariants as wide_immediates
use Rattle.mx_insn.specs.declared.insn.Count.TheVariants as counts
use Rattle.mx_insn.specs.declared.insn.Extension.TheVariants.{ByteToWord, ByteToDword, WordToDword}
use Rattle.mx_insn.specs.declared.insn.Port.TheVariants as ports
use Rattle.mx_insn.specs.declared.insn.PortSize.TheVariants as port_sizes
use Rattle.mx_insn.specs.declared.insn.Insn.{Insn}
use Rattle.mx_insn.specs.declared.insn.Insn.TheVariants as insns
use Rattle.mx_insn.specs.declared.row.Row.{Row}
use Rattle.mx_insn.specs.Table.{loop_row}
use Rattle.mx_encode.specs.declared.Wide.{Wide}
use Rattle.mx_encode.specs.declared.fields.Rm.{Rm}
use Rattle.mx_encode.specs.declared.fields.Number.{Number}
use Rattle.mx_encode.specs.Numbers.{is_short, short, shortens}
use Rattle.mx_encode.specs.Places.{has_place}
use Rattle.mx_encode.specs.Forms.{has_form}
use Rattle.mx_encode.specs.Choice.{Choice, choice, bare}
use Rattle.mx_encode.specs.Filled.{operand_with_displacement, with_displacement, with_immediate}
use Rattle.mx_encode.specs.Held.{dword_in, in_place_of, is_jump}

-- ---- whether it has a place

abbrev pub stands : Option Choice → Bool
stands None = false
stands (Some c) = has_place c.rm

-- two choices with one operand
same_place : (b : Bool) (x y : Choice) (t : Bool) → has_place x.rm ≡ t → has_place y.rm ≡ t → has_place (cond b x y).rm ≡ t
same_place b x y t p q = cond_both b x y (λ c. has_place c.rm ≡ t) (λ h. p) (λ h. q)

-- ---- a displacement that is put in

abbrev pub rm_at : Option Rm → ℕ → Option Rm
rm_at None n = None
rm_at (Some rm) n = Some (record { reg = rm.reg; operand = operand_with_displacement rm.operand n })

abbrev pub choice_at : Choice → ℕ → Choice
choice_at c n = record c { rm = rm_at c.rm n }

abbrev pub given_at : Option Choice → ℕ → Option Choice
given_at None n = None
given_at (Some c) n = Some (choice_at c n)

either_at : (b : Bool) (x y : Choice) (n : ℕ) → Some (cond b (choice_at x n) (choice_at y n)) ≡ given_at (Some (cond b x y)) n
either_at true x y n = refl
either_at false x y n = refl

looping_at : (b : Bool) (row : Row) (number : Number) (n : ℕ) → cond b (Some (bare row false 0 number)) None ≡ given_at (cond b (Some (bare row false 0 number)) None) n
looping_at true row number n = refl
looping_at false row number n = refl

-- ---- an immediate that is put in

abbrev pub Held : Option Choice → Option Choice → ℕ → Type 0
Held c d n = dword_in d ≡ in_place_of (dword_in c) n

-- the same of two choices, neither of which has such a number
none_of_two : (b : Bool) (x y : Choice) (n : ℕ) → dword_in (Some x) ≡ None → dword_in (Some y) ≡ None → Held (Some (cond b x y)) (Some (cond b x y)) n
none_of_two true x y n e f = e ∙ ap (λ o. in_place_of o n) (none_same (dword_in (Some x)) e)
  where
    none_same : (o : Option ℕ) → o ≡ None → None ≡ o
    none_same None e = refl
    none_same (Some m) e = cc
none_of_two false x y n e f = f ∙ ap (λ o. in_place_of o n) (none_same (dword_in (Some y)) f)
  where
    none_same : (o : Option ℕ) → o ≡ None → None ≡ o
    none_same None e = refl
    none_same (Some m) e = cc

-- ---- every instruction

pub record Each (i : Insn) : Type 0 where
  -- a choice has a place just where there is a form
  pub form : (wide : Wide) → stands (choice i wide) ≡ has_form i
  -- it stays but for the displacement, which is marked wide
  pub stays : (short : Bool) (n : ℕ) → choice (with_displacement i n) (record { immediate = short; displacement = true }) ≡ given_at (choice i (record { immediate = short; displacement = true })) n
  -- its number is the one that is put in, and is marked wide
  pub held : (long : Bool) (n : ℕ) → is_jump i ≡ false → Held (choice i (record { immediate = true; displacement = long })) (choice (with_immediate i n) (record { immediate = true; displacement = long })) n

pub each : (i : Insn) → Each i
each (insns.Arithmetic o (operands.ToRegister size to (operand.Register from))) = record { form = λ wide. refl; stays = λ s k. refl; held = λ long k h. refl }
each (insns.Arithmetic o (operands.ToRegister size to (operand.Memory m))) = record { form = λ wide. refl; stays = λ s k. refl; held = λ long k h. refl }
each (insns.Arithmetic o (operands.ToMemory size to from)) = record { form = λ wide. refl; stays = λ s k. refl; held = λ long k h. refl }
each (insns.Arithmetic o (operands.Immediate to (immediate.Byte m))) = record { form = λ wide. refl; stays = λ s k. refl; held = λ long k h. refl }
each (insns.Arithmetic o (operands.Immediate to (immediate.Word m))) = record { form = λ wide. same_place (shortens 16 m wide.immediate) _ _ _ refl refl; stays = λ s k. either_at (shortens 16 m s) _ _ k; held = λ long k h. refl }
each (insns.Arithmetic o (operands.Immediate to (immediate.Dword m))) = record { form = λ wide. same_place (shortens 32 m wide.immediate) _ _ _ refl refl; stays = λ s k. either_at (shortens 32 m s) _ _ k; held = λ long k h. refl }
each (insns.Move (operands.ToRegister size to (operand.Register from))) = record { form = λ wide. refl; stays = λ s k. refl; held = λ long k h. refl }
each (insns.Move (operands.ToRegister size to (operand.Memory m))) = record { form = λ wide. refl; stays = λ s k. refl; held = λ long k h. refl }
each (insns.Move (operands.ToMemory size to from)) = record { form = λ wide. refl; stays = λ s k. refl; held = λ long k h. refl }
each (insns.Move (operands.Immediate (operand.Register r) (immediate.Byte m))) = record { form = λ wide. refl; stays = λ s k. refl; held = λ long k h. refl }
each (insns.Move (operands.Immediate (operand.Register r) (immediate.Word m))) = record { form = λ wide. refl; stays = λ s k. refl; held = λ long k h. refl }
each (insns.Move (operands.Immediate (operand.Register r) (immediate.Dword m))) = record { form = λ wide. refl; stays = λ s k. refl; held = λ long k h. refl }
each (insns.Move (operands.Immediate (operand.Memory a) (immediate.Byte m))) = record { form = λ wide. refl; stays = λ s k. refl; held = λ long k h. refl }
each (insns.Move (operands.Immediate (operand.Memory a) (immediate.Word m))) = record { form = λ wide. refl; stays = λ s k. refl; held = λ long k h. refl }
each (insns.Move (operands.Immediate (operand.Memory a) (immediate.Dword m))) = record { form = λ wide. refl; stays = λ s k. refl; held = λ long k h. refl }
each (insns.TestImmediate o (immediate.Byte m)) = record { form = λ wide. refl; stays = λ s k. refl; held = λ long k h. refl }
each (insns.TestImmediate o (immediate.Word m)) = record { form = λ wide. refl; stays = λ s k. refl; held = λ long k h. refl }
each (insns.TestImmediate o (immediate.Dword m)) = record { form = λ wide. refl; stays = λ s k. refl; held = λ long k h. refl }
each (insns.Unary Inc Byte x) = record { form = λ wide. refl; stays = λ s k. refl; held = λ long k h. refl }
each (insns.Unary Inc Word (operand.Register r)) = record { form = λ wide. refl; stays = λ s k. refl; held = λ long k h. refl }
each (insns.Unary Inc Word (operand.Memory m)) = record { form = λ wide. refl; stays = λ s k. refl; held = λ long k h. refl }
each (insns.Unary Inc Dword (operand.Register r)) = record { form = λ wide. refl; stays = λ s k. refl; held = λ long k h. refl }
each (insns.Unary Inc Dword (operand.Memory m)) = record { form = λ wide. refl; stays = λ s k. refl; held = λ long k h. refl }
each (insns.Unary Dec Byte x) = record { form = λ wide. refl; stays = λ s k. refl; held = λ long k h. refl }
each (insns.Unary Dec Word (operand.Register r)) = record { form = λ wide. refl; stays = λ s k. refl; held = λ long k h. refl }
each (insns.Unary Dec Word (operand.Memory m)) = record { form = λ wide. refl; stays = λ s k. refl; held = λ long k h. refl }
each (insns.Unary Dec Dword (operand.Register r)) = record { form = λ wide. refl; stays = λ s k. refl; held = λ long k h. refl }
each (insns.Unary Dec Dword (operand.Memory m)) = record { form = λ wide. refl; stays = λ s k. refl; held = λ long k h. refl }
each (insns.Unary Not size x) = record { form = λ wide. refl; stays = λ s k. refl; held = λ long k h. refl }
each (insns.Unary Neg size x) = record { form = λ wide. refl; stays = λ s k. refl; held = λ long k h. refl }
each (insns.MultiplyImmediate to from (wide_immediates.Word m)) = record { form = λ wide. same_place (shortens 16 m wide.immediate) _ _ _ refl refl; stays = λ s k. either_at (shortens 16 m s) _ _ k; held = λ long k h. refl }
each (insns.MultiplyImmediate to from (wide_immediates.Dword m)) = record { form = λ wide. same_place (shortens 32 m wide.immediate) _ _ _ refl refl; stays = λ s k. either_at (shortens 32 m s) _ _ k; held = λ long k h. refl }
each (insns.Shift o size x counts.Cl) = record { form = λ wide. refl; stays = λ s k. refl; held = λ long k h. refl }
each (insns.Shift o size x (counts.Immediate m)) = record { form = λ wide. same_place (eqb m 1) _ _ _ refl refl; stays = λ s k. either_at (eqb m 1) _ _ k; held = λ long k h. none_of_two (eqb m 1) _ _ k refl refl }
each (insns.DoubleShift o x r counts.Cl) = record { form = λ wide. refl; stays = λ s k. refl; held = λ long k h. refl }
each (insns.DoubleShift o x r (counts.Immediate m)) = record { form = λ wide. refl; stays = λ s k. refl; held = λ long k h. refl }
each (insns.ZeroExtend ByteToWord to from) = record { form = λ wide. refl; stays = λ s k. refl; held = λ long k h. refl }
each (insns.ZeroExtend ByteToDword to from) = record { form = λ wide. refl; stays = λ s k. refl; held = λ long k h. refl }
each (insns.ZeroExtend WordToDword to from) = record { form = λ wide. refl; stays = λ s k. refl; held = λ long k h. refl }
each (insns.SignExtend ByteToWord to from) = record { form = λ wide. refl; stays = λ s k. refl; held = λ long k h. refl }
each (insns.SignExtend ByteToDword to from) = record { form = λ wide. refl; stays = λ s k. refl; held = λ long k h. refl }
each (insns.SignExtend WordToDword to from) = record { form = λ wide. refl; stays = λ s k. refl; held = λ long k h. refl }
each (insns.Push (operand.Register r)) = record { form = λ wide. refl; stays = λ s k. refl; held = λ long k h. refl }
each (insns.Push (operand.Memory m)) = record { form = λ wide. refl; stays = λ s k. refl; held = λ long k h. refl }
each (insns.PushImmediate m) = record { form = λ wide. same_place (shortens 32 m wide.immediate) _ _ _ refl refl; stays = λ s k. either_at (shortens 32 m s) _ _ k; held = λ long k h. refl }
each (insns.JumpIf c m) = record { form = λ wide. same_place (shortens 32 m wide.displacement) _ _ _ refl refl; stays = λ s k. refl; held = λ long k h. cc }
each (insns.Jump m) = record { form = λ wide. same_place (shortens 32 m wide.displacement) _ _ _ refl refl; stays = λ s k. refl; held = λ long k h. cc }
each (insns.Call m) = record { form = λ wide. refl; stays = λ s k. refl; held = λ long k h. cc }
each (insns.Loop o m) = record { form = λ wide. elim (is_short 32 m) as (λ b. stands (cond b (Some (bare (loop_row o) false 0 (short m))) None) ≡ b) [ true ↦ refl | false ↦ refl ]; stays = λ s k. looping_at (is_short 32 m) _ _ k; held = λ long k h. cc }
each (insns.Return m) = record { form = λ wide. same_place (eqb m 0) _ _ _ refl refl; stays = λ s k. either_at (eqb m 0) _ _ k; held = λ long k h. none_of_two (eqb m 0) _ _ k refl refl }
each (insns.In port_sizes.Byte ports.Dx) = record { form = λ wide. refl; stays = λ s k. refl; held = λ long k h. refl }
each (insns.In port_sizes.Dword ports.Dx) = record { form = λ wide. refl; stays = λ s k. refl; held = λ long k h. refl }
each (insns.In port_sizes.Byte (ports.Immediate m)) = record { form = λ wide. refl; stays = λ s k. refl; held = λ long k h. refl }
each (insns.In port_sizes.Dword (ports.Immediate m)) = record { form = λ wide. refl; stays = λ s k. refl; held = λ long k h. refl }
each (insns.Out port_sizes.Byte ports.Dx) = record { form = λ wide. refl; stays = λ s k. refl; held = λ long k h. refl }
each (insns.Out port_sizes.Dword ports.Dx) = record { form = λ wide. refl; stays = λ s k. refl; held = λ long k h. refl }
each (insns.Out port_sizes.Byte (ports.Immediate m)) = record { form = λ wide. refl; stays = λ s k. refl; held = λ long k h. refl }
each (insns.Out port_sizes.Dword (ports.Immediate m)) = record { form = λ wide. refl; stays = λ s k. refl; held = λ long k h. refl }
each _ = record { form = λ wide. refl; stays = λ s k. refl; held = λ long k h. refl }
