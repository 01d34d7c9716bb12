-- How long a jump is.
use Rattle.std.proofs.Common.{◌≡◌, ℕ, Bool, true, false, List, length, refl, sym, ◌∙◌, ap, arith}
use Rattle.std.specs.Prelude.{not}
use Rattle.std.proofs.lemmas.Bool.{not-false}
use Rattle.mx_word.specs.declared.names.Condition.{Condition}
use Rattle.mx_insn.specs.declared.insn.Loop.{Loop}
use Rattle.mx_insn.specs.declared.insn.Insn.TheVariants as insns
use Rattle.mx_encode.specs.Chosen.{Chosen}
use Rattle.mx_encode.specs.Numbers.{is_short}
use Rattle.mx_encode.specs.Lengths.{spelled_length, chosen_length}
use Rattle.mx_asm_statement.specs.declared.branch.JumpLength.TheVariants.{Short, Long}
use Rattle.mx_asm_statement.specs.declared.branch.Branch.{Branch}
use Rattle.mx_asm_statement.specs.declared.branch.Branch.TheVariants as branches
use Rattle.mx_asm.specs.Branches.{branch_by, branch_marks, branch_length, is_too_far}

-- a jump that reaches has the length that is asked for
reached_length : (k : Branch) (d : ℕ) → is_too_far k d ≡ false → chosen_length (branch_by k d) (branch_marks k) ≡ branch_length k
reached_length (branches.Jump Short) d h = rw (not-false (is_short 32 d) h) refl
reached_length (branches.Jump Long) d h = refl
reached_length (branches.JumpIf c Short) d h = rw (not-false (is_short 32 d) h) refl
reached_length (branches.JumpIf c Long) d h = refl
reached_length branches.Call d h = refl
reached_length (branches.Loop o) d h = rw (not-false (is_short 32 d) h) refl

bytes_length : (k : Branch) (d : ℕ) (b : List ℕ) → Chosen (branch_by k d) (branch_marks k) b → length b ≡ chosen_length (branch_by k d) (branch_marks k)
bytes_length k d b x = ap length x.spells.bytes_are ∙ sym (ap (λ c. spelled_length c (branch_marks k).displacement) x.is_chosen)

pub branch_bytes_length : (k : Branch) (d : ℕ) (b : List ℕ) → is_too_far k d ≡ false → Chosen (branch_by k d) (branch_marks k) b → length b ≡ branch_length k
branch_bytes_length k d b h x = bytes_length k d b x ∙ reached_length k d h

-- ---- a jump of that length reaches

-- what isn't short is not of two bytes
short_where : (d : ℕ) (s : Bool) → is_short 32 d ≡ s → (is_short 32 d ≡ false → ⊥) → not (is_short 32 d) ≡ false
short_where d true e never = ap not e
short_where d false e never = absurd (never e)

far_jump : (d : ℕ) → is_short 32 d ≡ false → chosen_length (insns.Jump d) (branch_marks (branches.Jump Short)) ≡ 5
far_jump d e = rw e refl

far_jump_if : (c : Condition) (d : ℕ) → is_short 32 d ≡ false → chosen_length (insns.JumpIf c d) (branch_marks (branches.JumpIf c Short)) ≡ 6
far_jump_if c d e = rw e refl

far_loop : (o : Loop) (d : ℕ) → is_short 32 d ≡ false → chosen_length (insns.Loop o d) (branch_marks (branches.Loop o)) ≡ 0
far_loop o d e = rw e refl

length_reaches : (k : Branch) (d : ℕ) → chosen_length (branch_by k d) (branch_marks k) ≡ branch_length k → is_too_far k d ≡ false
length_reaches (branches.Jump Short) d h = short_where d (is_short 32 d) refl (λ e. let far = far_jump d e in omega (arith, far, h))
length_reaches (branches.Jump Long) d h = refl
length_reaches (branches.JumpIf c Short) d h = short_where d (is_short 32 d) refl (λ e. let far = far_jump_if c d e in omega (arith, far, h))
length_reaches (branches.JumpIf c Long) d h = refl
length_reaches branches.Call d h = refl
length_reaches (branches.Loop o) d h = short_where d (is_short 32 d) refl (λ e. let far = far_loop o d e in omega (arith, far, h))

pub branch_reaches : (k : Branch) (d : ℕ) (b : List ℕ) → Chosen (branch_by k d) (branch_marks k) b → length b ≡ branch_length k → is_too_far k d ≡ false
branch_reaches k d b x n = length_reaches k d (sym (bytes_length k d b x) ∙ n)
