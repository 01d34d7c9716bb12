-- How many numbers there are without the zeros at the end, one number more.
use Rattle.std.proofs.Common.{◌≡◌, ◌∙◌, ◌<◌, ◌+◌, ℕ, suc, true, false, List, [], ◌∷◌, ◌++◌, length, take, get_or, ap, sym, arith}
use Rattle.std.specs.Prelude.{◌==◌, if◌then◌else◌}
use Rattle.std.proofs.lemmas.List.{take_more, length-take-le}
use Rattle.mx_look.specs.Numbers.{used_before, used_count}

-- a number that isn't 0 is used, and so are all above it
used_more : (xs : List ℕ) (x : ℕ) → (x == 0) ≡ false → used_count (xs ++ x ∷ []) ≡ suc (length xs)
used_more [] x h = ap (λ b. if b then 0 else 1) h
used_more (y ∷ ys) x h = ap (used_before y) (used_more ys x h)

-- a zero isn't
unused_more : (xs : List ℕ) (x : ℕ) → (x == 0) ≡ true → used_count (xs ++ x ∷ []) ≡ used_count xs
unused_more [] x h = ap (λ b. if b then 0 else 1) h
unused_more (y ∷ ys) x h = ap (used_before y) (unused_more ys x h)

pub next_used : (xs : List ℕ) (i : ℕ) → i < length xs → (get_or xs i 0 == 0) ≡ false → i + 1 ≡ used_count (take (i + 1) xs)
next_used xs i b h =
    let short : length (take i xs) ≡ i = length-take-le i xs (omega arith) in
    let one : suc i ≡ i + 1 = omega arith in
    sym (ap used_count (take_more xs i 0 b) ∙ used_more (take i xs) (get_or xs i 0) h ∙ ap suc short ∙ one)

pub next_unused : (xs : List ℕ) (i : ℕ) → i < length xs → (get_or xs i 0 == 0) ≡ true → used_count (take i xs) ≡ used_count (take (i + 1) xs)
next_unused xs i b h = sym (ap used_count (take_more xs i 0 b) ∙ unused_more (take i xs) (get_or xs i 0) h)
