-- The chain of who waits for whom, one slot more.
use Rattle.std.proofs.Common.{◌≡◌, ◌∙◌, ℕ, suc, List, [], ◌∷◌, ◌++◌, append_assoc, Option, None, Some, ap, sym}
use Rattle.std.proofs.lemmas.List.{append-nil}
use Rattle.mx_why.specs.declared.seats.End.{End}
use Rattle.mx_why.specs.Waiting.{and_on, chain_of, waits_for}

chain_from : (e : End) (n k at : ℕ) (o : Option ℕ) → o ≡ waits_for e at → k ≡ suc n → chain_of k e at ≡ and_on o (chain_of n e)
chain_from e n k at o waits many = ap (λ (m : ℕ). chain_of m e at) many ∙ ap (λ (p : Option ℕ). and_on p (chain_of n e)) (sym waits)

pub chain_more : (e : End) (slots total new : List ℕ) (n k at next : ℕ) → slots ++ chain_of k e at ≡ total → Some next ≡ waits_for e at → new ≡ slots ++ next ∷ [] → k ≡ suc n
    → new ++ chain_of n e next ≡ total
chain_more e slots total new n k at next so_far waits more many =
    ap (λ (t : List ℕ). t ++ chain_of n e next) more
    ∙ append_assoc slots (next ∷ []) (chain_of n e next)
    ∙ sym (ap (λ (t : List ℕ). slots ++ t) (chain_from e n k at (Some next) waits many))
    ∙ so_far

-- it ends with one that waits for nobody
pub chain_ends : (e : End) (slots total : List ℕ) (n k at : ℕ) → slots ++ chain_of k e at ≡ total → None ≡ waits_for e at → k ≡ suc n → slots ≡ total
chain_ends e slots total n k at so_far waits many =
    sym (append-nil slots) ∙ sym (ap (λ (t : List ℕ). slots ++ t) (chain_from e n k at None waits many)) ∙ so_far

-- no more are looked for
pub chain_over : (e : End) (slots total : List ℕ) (k at : ℕ) → slots ++ chain_of k e at ≡ total → k ≡ 0 → slots ≡ total
chain_over e slots total k at so_far none =
    sym (append-nil slots) ∙ sym (ap (λ (m : ℕ). slots ++ chain_of m e at) none) ∙ so_far
