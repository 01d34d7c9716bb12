-- One part more of a process's code.
use Rattle.std.proofs.Common.{◌≡◌, ◌≢◌, ◌∙◌, ◌<◌, ◌+◌, ◌-◌, ◌||◌, ℕ, suc, Option, Some, ap, sym, arith}
use Rattle.std.proofs.lemmas.Bool.{ne_eqb}
use Rattle.mx_dis.specs.declared.part.Part.{Part}
use Rattle.mx_dis.specs.Parting.{part_size}
use Rattle.mx_exec.specs.declared.image.Image.{Image}
use Rattle.mx_exec.specs.Image.{dword_sum}
use Rattle.mx_look.specs.Code.{code_part}
use Rattle.mx_app_look.specs.Starts.{after_part, begins_part}

pub counts_down : (n i : ℕ) → i < n → n - i ≡ suc (n - (i + 1))
counts_down n i lt = omega (arith, lt)

module _ (m : Image) (at : ℕ) where
  -- the first part doesn't begin there, and others follow
  pub one_part : (n k from size : ℕ) (p : Part) → k ≡ suc n → from ≢ at → code_part m from ≡ Some p → size ≡ part_size p
      → begins_part k m at from ≡ begins_part n m at (dword_sum from size)
  one_part n k from size p one isnt e s =
      ap (λ i. begins_part i m at from) one
      ∙ ap (λ b. b || after_part (code_part m from) from (begins_part n m at)) (ne_eqb from at isnt)
      ∙ ap (λ (o : Option Part). after_part o from (begins_part n m at)) e
      ∙ ap (λ i. begins_part n m at (dword_sum from i)) (sym s)
