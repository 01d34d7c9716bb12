-- Lines of numbers in a row, and of a list's items, one more.
use Rattle.std.proofs.Common.{◌≡◌, ◌∙◌, ℕ, zero, suc, ◌+◌, List, [], ◌++◌, append_assoc, ap, sym, subst, arith}
use Rattle.std.specs.List.{flat_map, range_with_len}
use Rattle.std.proofs.lemmas.List.{append-nil}

next_number : (f : ℕ → List ℕ) (a n : ℕ) → flat_map f (range_with_len a (suc n)) ≡ flat_map f (range_with_len a n) ++ f (a + n)
next_number f a zero = let e : a ≡ a + 0 = omega arith in append-nil (f a) ∙ ap f e
next_number f a (suc n) =
    let e : a + 1 + n ≡ a + suc n = omega arith in
    ap (λ (t : List ℕ). f a ++ t) (next_number f (a + 1) n) ∙ sym (append_assoc (f a) (flat_map f (range_with_len (a + 1) n)) (f (a + 1 + n)))
    ∙ ap (λ (k : ℕ). flat_map f (range_with_len a (suc n)) ++ f k) e

-- a text with the lines of the numbers below i, and then with that of i
pub next_row : (f : ℕ → List ℕ) (i : ℕ) (t y z line : List ℕ) → y ≡ t ++ flat_map f (range_with_len 0 i) → z ≡ y ++ line → line ≡ f i
    → z ≡ t ++ flat_map f (range_with_len 0 (i + 1))
next_row f i t y z line e g h =
    let one : suc i ≡ i + 1 = omega arith in
    let here : i ≡ 0 + i = omega arith in
    g ∙ ap (λ (v : List ℕ). v ++ line) e ∙ append_assoc t (flat_map f (range_with_len 0 i)) line
    ∙ ap (λ (v : List ℕ). t ++ (flat_map f (range_with_len 0 i) ++ v)) (h ∙ ap f here)
    ∙ ap (λ (v : List ℕ). t ++ v) (sym (next_number f 0 i)) ∙ ap (λ (n : ℕ). t ++ flat_map f (range_with_len 0 n)) one

-- and with that of i, if it is empty
pub empty_row : (f : ℕ → List ℕ) (i : ℕ) (t y : List ℕ) → y ≡ t ++ flat_map f (range_with_len 0 i) → f i ≡ [] → y ≡ t ++ flat_map f (range_with_len 0 (i + 1))
empty_row f i t y e h = next_row f i t y y [] e (sym (append-nil y)) (sym h)

pub all_rows : (f : ℕ → List ℕ) (i n : ℕ) (t y : List ℕ) → i ≡ n → y ≡ t ++ flat_map f (range_with_len 0 i) → y ≡ t ++ flat_map f (range_with_len 0 n)
all_rows f i n t y same e = subst (λ (k : ℕ). y ≡ t ++ flat_map f (range_with_len 0 k)) same e
