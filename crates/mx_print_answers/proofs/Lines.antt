-- Lines of a list, one more.
use Rattle.std.proofs.Common.{◌≡◌, ◌∙◌, ◌<◌, ◌+◌, ℕ, zero, suc, List, [], ◌∷◌, ◌++◌, Some, None, Result, Ok, Err, OnOk, length, take, append_assoc, length-append, refl, ap, sym, arith}
use Rattle.std.specs.Prelude.{slice_get, codes, if◌then◌else◌}
use Rattle.std.specs.Result.{is_ok}
use Rattle.std.specs.List.{flat_map, range_with_len}
use Rattle.std.proofs.lemmas.List.{append-nil}
use Rattle.mx_proc.specs.declared.deliveries.Delivery.{Delivery}
use Rattle.mx_print_answers.specs.Messages.{delivery_line, delivery_text}

same : {X : Type 0} (x y : X) → Some x ≡ Some y → x ≡ y
same x y h = cc

more : {X : Type 0} (f : X → List ℕ) (xs : List X) (i : ℕ) (x : X) → slice_get xs i ≡ Some x → flat_map f (take (suc i) xs) ≡ flat_map f (take i xs) ++ f x
more f [] i x h = absurd cc
more f (y ∷ ys) zero x h = append-nil (f y) ∙ ap f (same y x h)
more f (y ∷ ys) (suc i) x h = ap (λ (t : List ℕ). f y ++ t) (more f ys i x h) ∙ sym (append_assoc (f y) (flat_map f (take i ys)) (f x))

up_to : {X : Type 0} (xs : List X) (i : ℕ) → slice_get xs i ≡ None → take i xs ≡ xs
up_to [] zero h = refl
up_to [] (suc i) h = refl
up_to (y ∷ ys) zero h = absurd cc
up_to {X} (y ∷ ys) (suc i) h = ap (λ (t : List X). y ∷ t) (up_to ys i h)

-- a text with the lines of a list up to a place, then with that of the place
pub next_line : {X : Type 0} (f : X → List ℕ) (xs : List X) (i : ℕ) (x : X) (t y z : List ℕ) → slice_get xs i ≡ Some x
    → y ≡ t ++ flat_map f (take i xs) → z ≡ y ++ f x → z ≡ t ++ flat_map f (take (i + 1) xs)
next_line {X} f xs i x t y z h e g =
    let one : suc i ≡ i + 1 = omega arith in
    g ∙ ap (λ (v : List ℕ). v ++ f x) e ∙ append_assoc t (flat_map f (take i xs)) (f x)
    ∙ ap (λ (v : List ℕ). t ++ v) (sym (more f xs i x h)) ∙ ap (λ (n : ℕ). t ++ flat_map f (take n xs)) one

pub all_lines : {X : Type 0} (f : X → List ℕ) (xs : List X) (i : ℕ) (t y : List ℕ) → slice_get xs i ≡ None
    → y ≡ t ++ flat_map f (take i xs) → y ≡ t ++ flat_map f xs
all_lines {X} f xs i t y h e = e ∙ ap (λ (v : List X). t ++ flat_map f v) (up_to xs i h)

-- the lines of numbers in a row
pub next_number : (f : ℕ → List ℕ) (a n : ℕ) → flat_map f (range_with_len a (suc n)) ≡ flat_map f (range_with_len a n) ++ f (a + n)
next_number f a zero =
    let e : a ≡ a + 0 = omega arith in append-nil (f a) ∙ ap f e
next_number f a (suc n) =
    let e : a + 1 + n ≡ a + suc n = omega arith in
    ap (λ (t : List ℕ). f a ++ t) (next_number f (a + 1) n) ∙ sym (append_assoc (f a) (flat_map f (range_with_len (a + 1) n)) (f (a + 1 + n)))
    ∙ ap (λ (m : ℕ). (f a ++ flat_map f (range_with_len (a + 1) n)) ++ f m) e

-- a delivery's line has a byte or more
pub longer : (d : Delivery) (y z : List ℕ) → z ≡ y ++ delivery_line d → length y < length z
longer d y z h =
    let line = length-append (delivery_text d) (codes "\n") in
    let whole = length-append y (delivery_line d) in
    let n : length z ≡ length (y ++ delivery_line d) = ap length h in
    omega (arith, line, whole, n)

-- what is so once a text was put after another
pub on_pushed : {E : Type 0} (P : Type 0) (r : Result (Unit {0}) E) (z y x : List ℕ) → (z ≡ y → P) → z ≡ (if is_ok r then y else x) → OnOk r P
on_pushed P (Ok done) z y x f h = f h
on_pushed P (Err e) z y x f h = tt
