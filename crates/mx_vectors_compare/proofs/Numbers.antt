-- Numbers of a text, one after another.
use Rattle.std.proofs.Common.{◌≡◌, ◌≢◌, ◌<◌, ◌+◌, ◌==◌, ◌⊎◌, inl, inr, true, false, ℕ, suc, List, [], ◌∷◌, length, get_or, map, refl, sym, subst, arith, Bor}
use Rattle.std.proofs.Math.ListN.{set}
use Rattle.std.proofs.lemmas.Bool.Decides.{eqb_tells}
use Rattle.std.proofs.lemmas.List.{get_or-set_same, get_or-set_other}
use Rattle.mx_vectors_compare.specs.Line.{IsHexNumber, AreNumbers}

abbrev now : Bor (List ℕ) → List ℕ
now word = word.now

-- each of the first words is the number at its place
abbrev pub FirstNumbers : ℕ → List (Bor (List ℕ)) → Bor (List ℕ) → List ℕ → Type 0
FirstNumbers n words d numbers = (k : ℕ) → k < n → IsHexNumber (get_or words k d).now (get_or numbers k 0)

-- one more
pub numbers_more : (words : List (Bor (List ℕ))) (d : Bor (List ℕ)) (numbers : List ℕ) (n v : ℕ) → n < length numbers → IsHexNumber (get_or words n d).now v → FirstNumbers n words d numbers → FirstNumbers (n + 1) words d (set numbers n v)
numbers_more words d numbers n v low is each k below = by_place (eqb_tells k n)
  where
    by_place : (((k == n) ≡ true) × (k ≡ n)) ⊎ (((k == n) ≡ false) × (k ≢ n)) → IsHexNumber (get_or words k d).now (get_or (set numbers n v) k 0)
    by_place (inl p) =
        subst (λ (j : ℕ). IsHexNumber (get_or words j d).now (get_or (set numbers n v) j 0)) (sym p.1)
        (subst (λ (x : ℕ). IsHexNumber (get_or words n d).now x) (sym (get_or-set_same numbers n v 0 low)) is)
    by_place (inr p) = subst (λ (x : ℕ). IsHexNumber (get_or words k d).now x) (sym (get_or-set_other numbers n k v 0 p.1)) (each k (omega (arith, below, p.1)))

-- all of them
pub numbers_all : (words : List (Bor (List ℕ))) (d : Bor (List ℕ)) (numbers : List ℕ) (n : ℕ) → length words ≡ length numbers → length numbers ≡ n → FirstNumbers n words d numbers → AreNumbers (map now words) numbers
numbers_all [] d [] n e f each = tt
numbers_all [] d (v ∷ vs) n e f each = absurd (omega (arith, e))
numbers_all (w ∷ ws) d [] n e f each = absurd (omega (arith, e))
numbers_all (w ∷ ws) d (v ∷ vs) n e f each = (each 0 (omega (arith, f)), numbers_all ws d vs (length vs) (omega (arith, e)) refl (λ k below. each (suc k) (omega (arith, below, f))))
