-- Parts of a list, one for each number or item, one more.
use Rattle.std.proofs.Common.{◌≡◌, ◌∙◌, ◌<◌, ℕ, zero, suc, ◌+◌, List, ◌++◌, length, get_or, take, append_assoc, ap, sym, subst, arith}
use Rattle.std.specs.List.{flat_map, range_with_len}
use Rattle.std.specs.Prelude.{fold}
use Rattle.std.proofs.lemmas.List.{append-nil, flat_map_more, take_more}

next_number : {X : Type 0} (f : ℕ → List X) (a n : ℕ) → flat_map f (range_with_len a (suc n)) ≡ flat_map f (range_with_len a n) ++ f (a + n)
next_number f a zero = let e : a ≡ a + 0 = omega arith in append-nil (f a) ∙ ap f e
next_number {X} f a (suc n) =
    let e : a + 1 + n ≡ a + suc n = omega arith in
    ap (λ (t : List X). f a ++ t) (next_number f (a + 1) n) ∙ sym (append_assoc (f a) (flat_map f (range_with_len (a + 1) n)) (f (a + 1 + n)))
    ∙ ap (λ (k : ℕ). flat_map f (range_with_len a (suc n)) ++ f k) e

-- a list with the parts of the numbers below i, and then with that of i
pub next_row : {X : Type 0} (f : ℕ → List X) (i : ℕ) (t y z part : List X) → y ≡ t ++ flat_map f (range_with_len 0 i) → z ≡ y ++ part → part ≡ f i
    → z ≡ t ++ flat_map f (range_with_len 0 (i + 1))
next_row {X} f i t y z part e g h =
    let one : suc i ≡ i + 1 = omega arith in
    let here : i ≡ 0 + i = omega arith in
    g ∙ ap (λ (v : List X). v ++ part) e ∙ append_assoc t (flat_map f (range_with_len 0 i)) part
    ∙ ap (λ (v : List X). t ++ (flat_map f (range_with_len 0 i) ++ v)) (h ∙ ap f here)
    ∙ ap (λ (v : List X). t ++ v) (sym (next_number f 0 i)) ∙ ap (λ (n : ℕ). t ++ flat_map f (range_with_len 0 n)) one

pub all_rows : {X : Type 0} (f : ℕ → List X) (i n : ℕ) (t y : List X) → i ≡ n → y ≡ t ++ flat_map f (range_with_len 0 i) → y ≡ t ++ flat_map f (range_with_len 0 n)
all_rows f i n t y same e = subst (λ (k : ℕ). y ≡ t ++ flat_map f (range_with_len 0 k)) same e

-- a list with the parts of the first i items, and then with that of the next
pub next_item : {X Y : Type 0} (f : Y → List X) (ys : List Y) (i : ℕ) (d : Y) (t y z : List X) → i < length ys → y ≡ t ++ flat_map f (take i ys) → z ≡ y ++ f (get_or ys i d)
    → z ≡ t ++ flat_map f (take (i + 1) ys)
next_item {X} {Y} f ys i d t y z within e g =
    g ∙ ap (λ (v : List X). v ++ f (get_or ys i d)) e ∙ flat_map_more f t (take i ys) (get_or ys i d)
    ∙ ap (λ (v : List Y). t ++ flat_map f v) (sym (take_more ys i d within))

fold_number : {B : Type 0} (f : B → ℕ → B) (b : B) (a n : ℕ) → fold f b (range_with_len a (suc n)) ≡ f (fold f b (range_with_len a n)) (a + n)
fold_number f b a zero = let e : a ≡ a + 0 = omega arith in ap (f b) e
fold_number f b a (suc n) =
    let e : a + 1 + n ≡ a + suc n = omega arith in
    fold_number f (f b a) (a + 1) n ∙ ap (λ (k : ℕ). f (fold f b (range_with_len a (suc n))) k) e

-- what becomes of something by the numbers below i, and then by i
pub next_folded : {B : Type 0} (f : B → ℕ → B) (i : ℕ) (b y z : B) → y ≡ fold f b (range_with_len 0 i) → z ≡ f y i → z ≡ fold f b (range_with_len 0 (i + 1))
next_folded {B} f i b y z e g =
    let one : suc i ≡ i + 1 = omega arith in
    let here : i ≡ 0 + i = omega arith in
    g ∙ ap (λ (v : B). f v i) e ∙ ap (λ (k : ℕ). f (fold f b (range_with_len 0 i)) k) here
    ∙ sym (fold_number f b 0 i) ∙ ap (λ (n : ℕ). fold f b (range_with_len 0 n)) one
