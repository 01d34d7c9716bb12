-- One place more of a list that is read by places.
use Rattle.std.proofs.Common.{◌≡◌, ℕ, zero, suc, ◌+◌, ◌≤◌, List, [], ◌∷◌, length, drop, Some, None, ap, ◌∙◌, arith}
use Rattle.std.specs.Prelude.{slice_get}
use Rattle.std.proofs.lemmas.List.{drop_all}

pub one_more : (xs : List ℕ) (i x : ℕ) → slice_get xs i ≡ Some x → drop i xs ≡ x ∷ drop (i + 1) xs
one_more [] i x h = absurd cc
one_more (y ∷ ys) zero x h = ap (λ (z : ℕ). z ∷ ys) (some_is y x h)
  where
    some_is : (y x : ℕ) → Some y ≡ Some x → y ≡ x
    some_is y x h = cc
one_more (y ∷ ys) (suc i) x h =
    let next : suc (i + 1) ≡ suc i + 1 = omega arith in
    one_more ys i x h ∙ ap (λ (n : ℕ). x ∷ drop n (y ∷ ys)) next

past : (xs : List ℕ) (i : ℕ) → slice_get xs i ≡ None → length xs ≤ i
past [] i h = omega arith
past (x ∷ xs) zero h = absurd cc
past (x ∷ xs) (suc i) h = let further = past xs i h in omega (arith, further)

pub no_more : (xs : List ℕ) (i : ℕ) → slice_get xs i ≡ None → drop i xs ≡ []
no_more xs i h = drop_all i xs (past xs i h)
