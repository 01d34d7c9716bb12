-- The last of some lines.
use Rattle.std.proofs.Common.{◌≡◌, ◌∙◌, ◌<◌, ◌≤◌, ◌+◌, ℕ, zero, suc, List, [], ◌∷◌, ◌++◌, Some, None, length, take, drop, append_assoc, refl, ap, sym, arith}
use Rattle.std.specs.Prelude.{slice_get}
use Rattle.std.specs.List.{flat_map}
use Rattle.std.proofs.lemmas.List.{append-nil, length-take-le, take_all}
use Rattle.std.proofs.Math.ListN.{drop_of_length-le}

same : {X : Type 0} (x y : X) → Some x ≡ Some y → x ≡ y
same x y h = cc

-- ---- how many there are

past : {X : Type 0} (xs : List X) (i : ℕ) → slice_get xs i ≡ None → length xs ≤ i
past [] i h = omega arith
past (x ∷ xs) zero h = absurd cc
past (x ∷ xs) (suc i) h = let r : length xs ≤ i = past xs i h in omega (arith, r)

here : {X : Type 0} (xs : List X) (i : ℕ) (x : X) → slice_get xs i ≡ Some x → i < length xs
here [] i x h = absurd cc
here (y ∷ ys) zero x h = omega arith
here (y ∷ ys) (suc i) x h = let r : i < length ys = here ys i x h in omega (arith, r)

pub one_more : {X : Type 0} (xs : List X) (i : ℕ) (x : X) → slice_get xs i ≡ Some x → i + 1 ≤ length xs
one_more xs i x h = let r : i < length xs = here xs i x h in omega (arith, r)

-- fewer than there may be
pub few_counted : {X : Type 0} (most i : ℕ) (xs : List X) → i < most → i ≤ length xs → slice_get xs i ≡ None → i ≡ length (take most xs)
few_counted most i xs lt le h =
    let p : length xs ≤ i = past xs i h in
    let within : length xs ≤ most = omega (arith, p, lt) in
    let all : length (take most xs) ≡ length xs = ap length (take_all most xs within) in
    omega (arith, p, le, all)

-- as many as there may be
pub all_counted : {X : Type 0} (most i : ℕ) (xs : List X) → most ≤ i → i ≤ most → i ≤ length xs → i ≡ length (take most xs)
all_counted most i xs ge le within =
    let so_many : length (take most xs) ≡ most = length-take-le most xs (omega (arith, ge, within)) in
    omega (arith, so_many, ge, le)

-- ---- those that are left

get_taken : {X : Type 0} (n i : ℕ) (xs : List X) → i < n → slice_get (take n xs) i ≡ slice_get xs i
get_taken zero i xs lt = absurd (omega (arith, lt))
get_taken (suc n) i [] lt = refl
get_taken (suc n) zero (x ∷ xs) lt = refl
get_taken (suc n) (suc i) (x ∷ xs) lt = get_taken n i xs (omega (arith, lt))

rest_at : {X : Type 0} (f : X → List ℕ) (xs : List X) (i : ℕ) (x : X) → slice_get xs i ≡ Some x → flat_map f (drop i xs) ≡ f x ++ flat_map f (drop (suc i) xs)
rest_at f [] i x h = absurd cc
rest_at f (y ∷ ys) zero x h = ap (λ z. f z ++ flat_map f ys) (same y x h)
rest_at f (y ∷ ys) (suc i) x h = rest_at f ys i x h

-- a line more: `t` is a text with all lines, `y` one without those from the i-th on
pub next_left : {X : Type 0} (f : X → List ℕ) (most : ℕ) (xs : List X) (i : ℕ) (x : X) (t y z : List ℕ) → slice_get xs i ≡ Some x → i < most
    → y ++ flat_map f (drop i (take most xs)) ≡ t → z ≡ y ++ f x → z ++ flat_map f (drop (i + 1) (take most xs)) ≡ t
next_left f most xs i x t y z h lt e g =
    let ds = take most xs in
    let one : i + 1 ≡ suc i = omega arith in
    let rest : flat_map f (drop i ds) ≡ f x ++ flat_map f (drop (suc i) ds) = rest_at f ds i x (get_taken most i xs lt ∙ h) in
    ap (λ k. z ++ flat_map f (drop k ds)) one ∙ ap (λ v. v ++ flat_map f (drop (suc i) ds)) g
    ∙ append_assoc y (f x) (flat_map f (drop (suc i) ds)) ∙ ap (λ v. y ++ v) (sym rest) ∙ e

shorter : {X : Type 0} (n : ℕ) (xs : List X) → length (take n xs) ≤ length xs
shorter zero xs = omega arith
shorter (suc n) [] = omega arith
shorter (suc n) (x ∷ xs) = let r : length (take n xs) ≤ length xs = shorter n xs in omega (arith, r)

-- there is one at each place below the count
pub never_past : {X : Type 0} (most i : ℕ) (xs : List X) → i < length (take most xs) → slice_get xs i ≡ None → ⊥
never_past most i xs lt h =
    let p : length xs ≤ i = past xs i h in
    let s : length (take most xs) ≤ length xs = shorter most xs in
    omega (arith, p, lt, s)

-- no line is left
pub none_left : {X : Type 0} (f : X → List ℕ) (xs : List X) (i : ℕ) (t y : List ℕ) → length xs ≤ i → y ++ flat_map f (drop i xs) ≡ t → y ≡ t
none_left f xs i t y le e = sym (append-nil y) ∙ ap (λ v. y ++ flat_map f v) (sym (drop_of_length-le xs le)) ∙ e
