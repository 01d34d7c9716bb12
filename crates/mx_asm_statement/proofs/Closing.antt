-- What ends in a bracket.
use Rattle.std.proofs.Common.{◌≡◌, Some, None, Bool, true, false, List, [], ◌∷◌, ◌++◌, ap, ◌∙◌, refl, cond}
use Rattle.mx_asm_statement.specs.declared.item.Item.{Item}
use Rattle.mx_asm_statement.specs.Items.{◌>>=◌}
use Rattle.mx_asm_statement.specs.Arguments.{is_close, before_close}

onto : (b : Bool) (t : Item) (xs : List Item) → (cond b (Some xs) None >>= λ front. Some (t ∷ front)) ≡ cond b (Some (t ∷ xs)) None
onto true t xs = refl
onto false t xs = refl

pub before_close_last : (xs : List Item) (x : Item) → before_close (xs ++ x ∷ []) ≡ cond (is_close x) (Some xs) None
before_close_last [] x = refl
before_close_last (t ∷ []) x = onto (is_close x) t []
before_close_last (t ∷ u ∷ xs) x = ap (λ r. r >>= λ front. Some (t ∷ front)) (before_close_last (u ∷ xs) x) ∙ onto (is_close x) t (u ∷ xs)
