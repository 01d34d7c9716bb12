-- Values of numbers in a row, and of a list's items, one more.
use Rattle.std.proofs.Common.{◌≡◌, ◌∙◌, ℕ, zero, suc, ◌+◌, List, ◌++◌, append_assoc, ap, sym, subst, arith}
use Rattle.std.specs.List.{flat_map, range_with_len}
use Rattle.std.proofs.lemmas.List.{append-nil}

next_number : {A : Type 0} (f : ℕ → List A) (a n : ℕ) → flat_map f (range_with_len a (suc n)) ≡ flat_map f (range_with_len a n) ++ f (a + n)
next_number f a zero = let e : a ≡ a + 0 = omega arith in append-nil (f a) ∙ ap f e
next_number {A} f a (suc n) =
    let e : a + 1 + n ≡ a + suc n = omega arith in
    ap (λ (t : List A). f a ++ t) (next_number f (a + 1) n) ∙ sym (append_assoc (f a) (flat_map f (range_with_len (a + 1) n)) (f (a + 1 + n)))
    ∙ ap (λ (k : ℕ). flat_map f (range_with_len a (suc n)) ++ f k) e

-- values with those of the numbers below i, and then with that of i
pub next_row : {A : Type 0} (f : ℕ → List A) (i : ℕ) (t y z line : List A) → y ≡ t ++ flat_map f (range_with_len 0 i) → z ≡ y ++ line → line ≡ f i
    → z ≡ t ++ flat_map f (range_with_len 0 (i + 1))
next_row {A} f i t y z line e g h =
    let one : suc i ≡ i + 1 = omega arith in
    let here : i ≡ 0 + i = omega arith in
    g ∙ ap (λ (v : List A). v ++ line) e ∙ append_assoc t (flat_map f (range_with_len 0 i)) line
    ∙ ap (λ (v : List A). t ++ (flat_map f (range_with_len 0 i) ++ v)) (h ∙ ap f here)
    ∙ ap (λ (v : List A). t ++ v) (sym (next_number f 0 i)) ∙ ap (λ (n : ℕ). t ++ flat_map f (range_with_len 0 n)) one

pub all_rows : {A : Type 0} (f : ℕ → List A) (i n : ℕ) (t y : List A) → i ≡ n → y ≡ t ++ flat_map f (range_with_len 0 i) → y ≡ t ++ flat_map f (range_with_len 0 n)
all_rows f i n t y same e = subst (λ (k : ℕ). y ≡ t ++ flat_map f (range_with_len 0 k)) same e
