-- Lists that grow by one element, or by what is left.
use Rattle.std.proofs.Common.{◌≡◌, ◌∙◌, ◌+◌, ◌-◌, ◌≤◌, ◌<◌, ◌++◌, ℕ, zero, suc, Bool, true, false, cond, List, [], ◌∷◌, append_assoc, map, take, drop, filter, get_or, length, Some, None, refl, sym, ap, arith}
use Rattle.std.proofs.Math.Seq.{drop-cons}
use Rattle.std.specs.Prelude.{slice_get}
use Rattle.std.specs.List.{range_with_len}

pub taken : {A : Type 0} (c : Bool) (a b : A) → c ≡ true → cond c a b ≡ a
taken true a b h = refl
taken false a b h = cc

pub passed : {A : Type 0} (c : Bool) (a b : A) → c ≡ false → cond c a b ≡ b
passed true a b h = cc
passed false a b h = refl

-- ---- bytes of a part of a list

-- one more
pub got : {X : Type 0} (ys : List X) (i : ℕ) (b : X) → slice_get ys i ≡ Some b → take (suc i) ys ≡ take i ys ++ b ∷ []
got [] i b e = cc
got (y ∷ ys) zero b e = let h : y ≡ b = cc in ap (λ z. z ∷ []) h
got (y ∷ ys) (suc i) b e = ap (λ zs. y ∷ zs) (got ys i b e)

-- past the end there is none
pub none_more : {X : Type 0} (ys : List X) (i n : ℕ) → slice_get ys i ≡ None → i ≤ n → take i ys ≡ take n ys
none_more [] zero zero e le = refl
none_more [] zero (suc n) e le = refl
none_more [] (suc i) zero e le = refl
none_more [] (suc i) (suc n) e le = refl
none_more (y ∷ ys) zero n e le = cc
none_more (y ∷ ys) (suc i) zero e le = absurd (omega (arith, le))
none_more (y ∷ ys) (suc i) (suc n) e le = ap (λ zs. y ∷ zs) (none_more ys i n e (omega (arith, le)))

-- an element of what is left
pub get_dropped : {X : Type 0} (xs : List X) (a i : ℕ) → slice_get (drop a xs) i ≡ slice_get xs (a + i)
get_dropped xs zero i = let e : 0 + i ≡ i = omega arith in sym (ap (slice_get xs) e)
get_dropped [] (suc a) i = refl
get_dropped (x ∷ xs) (suc a) i =
    let e : suc a + i ≡ suc (a + i) = omega arith in
    get_dropped xs a i ∙ sym (ap (slice_get (x ∷ xs)) e)

-- the byte after so many of what is left
pub one_more : {X : Type 0} (xs : List X) (a i : ℕ) (b : X) → slice_get xs (a + i) ≡ Some b → take (i + 1) (drop a xs) ≡ take i (drop a xs) ++ b ∷ []
one_more xs a i b e =
    let next : i + 1 ≡ suc i = omega arith in
    ap (λ n. take n (drop a xs)) next ∙ got (drop a xs) i b (get_dropped xs a i ∙ e)

pub no_more : {X : Type 0} (xs : List X) (a i n : ℕ) → slice_get xs (a + i) ≡ None → i ≤ n → take i (drop a xs) ≡ take n (drop a xs)
no_more xs a i n e le = none_more (drop a xs) i n (get_dropped xs a i ∙ e) le

-- ---- what is left of a list

module _ {X : Type 0} (xs : List X) (i : ℕ) (d : X) (lt : i < length xs) where
  pub next_left : drop i xs ≡ get_or xs i d ∷ drop (i + 1) xs
  next_left = let next : suc i ≡ i + 1 = omega arith in drop-cons xs i d lt ∙ ap (λ n. get_or xs i d ∷ drop n xs) next

  pub kept : (f : X → Bool) → f (get_or xs i d) ≡ true → filter f (drop i xs) ≡ get_or xs i d ∷ filter f (drop (i + 1) xs)
  kept f is = ap (filter f) next_left ∙ taken (f (get_or xs i d)) (get_or xs i d ∷ filter f (drop (i + 1) xs)) (filter f (drop (i + 1) xs)) is

  pub left_out : (f : X → Bool) → f (get_or xs i d) ≡ false → filter f (drop i xs) ≡ filter f (drop (i + 1) xs)
  left_out f is = ap (filter f) next_left ∙ passed (f (get_or xs i d)) (get_or xs i d ∷ filter f (drop (i + 1) xs)) (filter f (drop (i + 1) xs)) is

-- ---- numbers that are left

pub range_next : (n i : ℕ) → i < n → range_with_len i (n - i) ≡ i ∷ range_with_len (i + 1) (n - (i + 1))
range_next n i lt = let e : n - i ≡ suc (n - (i + 1)) = omega (arith, lt) in ap (range_with_len i) e

pub range_over : (n i : ℕ) → n ≤ i → range_with_len i (n - i) ≡ []
range_over n i ge = let e : n - i ≡ 0 = omega (arith, ge) in ap (range_with_len i) e

-- those of the numbers that are left that pass a test, after those so far
module _ {X : Type 0} (f : ℕ → Bool) (g : ℕ → X) (n i : ℕ) (lt : i < n) (front whole : List X)
    (inv : front ++ map g (filter f (range_with_len i (n - i))) ≡ whole) where
  abbrev later : List ℕ
  later = filter f (range_with_len (i + 1) (n - (i + 1)))

  one_apart : front ++ map g (cond (f i) (i ∷ later) later) ≡ whole
  one_apart = sym (ap (λ is. front ++ map g (filter f is)) (range_next n i lt)) ∙ inv

  pub listed : f i ≡ true → (now : List X) → now ≡ front ++ g i ∷ [] → now ++ map g later ≡ whole
  listed is now e =
      ap (λ xs. xs ++ map g later) e ∙ append_assoc front (g i ∷ []) (map g later)
      ∙ sym (ap (λ ns. front ++ map g ns) (taken (f i) (i ∷ later) later is)) ∙ one_apart

  pub unlisted : f i ≡ false → front ++ map g later ≡ whole
  unlisted is = sym (ap (λ ns. front ++ map g ns) (passed (f i) (i ∷ later) later is)) ∙ one_apart
