-- Items, token by token.
use Rattle.std.proofs.Common.{◌≡◌, ℕ, suc, List, [], ◌∷◌, ◌++◌, length, All, sym, subst, arith}
use Rattle.std.proofs.lemmas.List.{append_assoc, append-nil}
use Rattle.mx_lex.specs.declared.kinds.Token.{Token}
use Rattle.mx_lex.specs.Tokens.{IsSlice}
use Rattle.mx_asm_statement.specs.declared.item.Item.{Item}
use Rattle.mx_asm_statement.specs.Sorting.{IsItem, AreItems}

-- what goes on from the rest goes on from the start
abbrev pub GoesOn : List ℕ → List Token → List Token → List Item → Type 0
GoesOn t all rest found = (xs : List Item) → AreItems t rest xs → AreItems t all (found ++ xs)

pub goes_on_start : (t : List ℕ) (all : List Token) → GoesOn t all all []
goes_on_start t all xs are = are

pub goes_on_one : (t : List ℕ) (all rest : List Token) (k : Token) (found : List Item) (x : Item) → GoesOn t all (k ∷ rest) found → IsItem t k x → GoesOn t all rest (found ++ x ∷ [])
goes_on_one t all rest k found x goes is xs are =
    subst (λ ys. AreItems t all ys) (sym (append_assoc found (x ∷ []) xs)) (goes (x ∷ xs) (is, are))

pub goes_on_end : (t : List ℕ) (all : List Token) (found : List Item) → GoesOn t all [] found → AreItems t all found
goes_on_end t all found goes = subst (λ ys. AreItems t all ys) (append-nil found) (goes [] tt)

pub goes_on_step : (t : List ℕ) (all rest more : List Token) (k : Token) (found longer : List Item) (x : Item) → rest ≡ k ∷ more → GoesOn t all rest found → IsItem t k x → longer ≡ found ++ x ∷ [] → GoesOn t all more longer
goes_on_step t all rest more k found longer x split goes is pushed =
    let start : GoesOn t all (k ∷ more) found = subst (λ r. GoesOn t all r found) split goes in
    subst (λ ys. GoesOn t all more ys) (sym pushed) (goes_on_one t all more k found x start is)

pub goes_on_stop : (t : List ℕ) (all rest : List Token) (found : List Item) → length rest ≡ 0 → GoesOn t all rest found → AreItems t all found
goes_on_stop t all [] found none goes = goes_on_end t all found goes
goes_on_stop t all (k ∷ rest) found none goes = absurd (omega (arith, none))

-- each of the rest is a slice
pub slices_after : (t : List ℕ) (rest more : List Token) (k : Token) → rest ≡ k ∷ more → All (IsSlice t) rest → All (IsSlice t) more
slices_after t rest more k split all = go (subst (λ r. All (IsSlice t) r) split all)
  where
    go : All (IsSlice t) (k ∷ more) → All (IsSlice t) more
    go each i d lt = each (suc i) d (omega (arith, lt))
