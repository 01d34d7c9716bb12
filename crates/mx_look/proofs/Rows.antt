-- Lines of code and rows of a stack, one more; and sizes of calls.
use Rattle.std.proofs.Common.{◌≡◌, ◌∙◌, ◌<◌, ◌+◌, ◌-◌, ◌||◌, ℕ, zero, suc, Bool, true, false, List, [], ◌++◌, append_assoc, Option, Some, None, Result, Ok, Err, inl, inr, refl, ap, subst, sym, arith}
use Rattle.std.proofs.lemmas.Bool.{cases_lt}
use Rattle.std.proofs.lemmas.List.{append-nil}
use Rattle.mx_aout.specs.declared.program.Symbol.{Symbol}
use Rattle.mx_exec.specs.declared.image.Image.{Image}
use Rattle.mx_exec.specs.Image.{dword_sum}
use Rattle.mx_mem.specs.Segment.{read_at}
use Rattle.mx_mem.specs.declared.segment.OutOfLimit.{OutOfLimit}
use Rattle.mx_word.specs.declared.size.Size.TheVariants.{Dword}
use Rattle.mx_dis.specs.declared.part.Part.{Part}
use Rattle.mx_dis.specs.Parting.{part_size}
use Rattle.mx_look.specs.Code.{code_line, code_part}
use Rattle.mx_look.specs.Lines.{and_lines, code_lines}
use Rattle.mx_look.specs.Stack.{and_rows, call_ends, shorter_call_ends, stack_row, stack_rows}

-- what is left is nothing
pub none_left : (out rest before all : List ℕ) → out ++ rest ≡ before ++ all → rest ≡ [] → out ≡ before ++ all
none_left out rest before all h e = sym (append-nil out) ∙ ap (λ t. out ++ t) (sym e) ∙ h

-- one piece more of what is left
pub one_less : (out more piece rest left before all : List ℕ) → out ++ left ≡ before ++ all → left ≡ piece ++ rest → more ≡ out ++ piece → more ++ rest ≡ before ++ all
one_less out more piece rest left before all h e m = ap (λ t. t ++ rest) m ∙ append_assoc out piece rest ∙ ap (λ t. out ++ t) (sym e) ∙ h

pub counts_down : (n i : ℕ) → i < n → n - i ≡ suc (n - (i + 1))
counts_down n i lt = omega (arith, lt)

module _ (symbols : List Symbol) (m : Image) where
  pub one_line : (n k at size : ℕ) (p : Part) → k ≡ suc n → code_part m at ≡ Some p → size ≡ part_size p
      → code_lines k symbols m at ≡ code_line symbols m at ++ code_lines n symbols m (dword_sum at size)
  one_line n k at size p one e s =
      ap (λ i. code_lines i symbols m at) one
      ∙ ap (λ (o : Option Part). and_lines (code_line symbols m at) o at (code_lines n symbols m)) e
      ∙ ap (λ i. code_line symbols m at ++ code_lines n symbols m (dword_sum at i)) (sym s)

  pub no_line : (n at : ℕ) → code_part m at ≡ None → code_lines n symbols m at ≡ []
  no_line zero at e = refl
  no_line (suc n) at e = ap (λ (o : Option Part). and_lines (code_line symbols m at) o at (code_lines n symbols m)) e

  pub one_row : (n k at v : ℕ) → k ≡ suc n → read_at m.memory at Dword ≡ Ok v → stack_rows k symbols m at ≡ stack_row symbols m at v ++ stack_rows n symbols m (dword_sum at 4)
  one_row n k at v one e =
      ap (λ i. stack_rows i symbols m at) one
      ∙ ap (λ (r : Result ℕ OutOfLimit). and_rows symbols m at r (stack_rows n symbols m (dword_sum at 4))) e

  pub no_row : (n at : ℕ) (w : OutOfLimit) → read_at m.memory at Dword ≡ Err w → stack_rows n symbols m at ≡ []
  no_row zero at w e = refl
  no_row (suc n) at w e = ap (λ (r : Result ℕ OutOfLimit). and_rows symbols m at r (stack_rows n symbols m (dword_sum at 4))) e

-- ---- calls

left_true : (p q : Bool) → p ≡ true → (p || q) ≡ true
left_true p q e = ap (λ b. b || q) e

module _ (m : Image) (at : ℕ) where
  -- a call of this size ends there
  this_ends : (i : ℕ) → call_ends m at i ≡ true → shorter_call_ends m at (suc i) ≡ true
  this_ends i e = by_front (shorter_call_ends m at i) refl
    where
      by_front : (b : Bool) → shorter_call_ends m at i ≡ b → shorter_call_ends m at (suc i) ≡ true
      by_front true h = ap (λ b. b || call_ends m at i) h
      by_front false h = ap (λ b. b || call_ends m at i) h ∙ e

  -- and so of a size below a greater one
  pub one_ends : (n i : ℕ) → i < n → call_ends m at i ≡ true → shorter_call_ends m at n ≡ true
  one_ends zero i lt e = absurd (omega (arith, lt))
  one_ends (suc n) i lt e = elim (cases_lt i n) [
    | inl less ↦ left_true (shorter_call_ends m at n) (call_ends m at n) (one_ends n i less e)
    | inr more ↦ let same : i ≡ n = omega (arith, lt, more) in subst (λ k. shorter_call_ends m at (suc k) ≡ true) same (this_ends i e)
  ]

  pub none_ends : (i : ℕ) → shorter_call_ends m at i ≡ false → call_ends m at i ≡ false → shorter_call_ends m at (i + 1) ≡ false
  none_ends i h e =
      let one : i + 1 ≡ suc i = omega arith in
      ap (λ k. shorter_call_ends m at k) one ∙ ap (λ b. b || call_ends m at i) h ∙ e
