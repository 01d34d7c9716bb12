-- Parts of lists, an element more.
use Rattle.std.proofs.Common.{◌≡◌, ◌∙◌, ◌+◌, ◌-◌, ◌≤◌, ◌<◌, ◌++◌, ℕ, zero, suc, List, [], ◌∷◌, append_assoc, take, drop, get_or, length, Some, Result, Ok, Err, refl, sym, ap, arith}
use Rattle.std.specs.Prelude.{OnOk, if◌then◌else◌, is_ok, slice_get, slice_range}
use Rattle.std.proofs.lemmas.Option.{slice_get-get_or}

pub got : {X : Type 0} (ys : List X) (i : ℕ) (b : X) → slice_get ys i ≡ Some b → take (suc i) ys ≡ take i ys ++ b ∷ []
got [] i b e = cc
got (y ∷ ys) zero b e = let h : y ≡ b = cc in ap (λ z. z ∷ []) h
got (y ∷ ys) (suc i) b e = ap (λ zs. y ∷ zs) (got ys i b e)

-- an element of what is left
pub get_dropped : {X : Type 0} (xs : List X) (a i : ℕ) → slice_get (drop a xs) i ≡ slice_get xs (a + i)
get_dropped xs zero i = let e : 0 + i ≡ i = omega arith in sym (ap (slice_get xs) e)
get_dropped [] (suc a) i = refl
get_dropped (x ∷ xs) (suc a) i =
    let e : suc a + i ≡ suc (a + i) = omega arith in
    get_dropped xs a i ∙ sym (ap (slice_get (x ∷ xs)) e)

-- the element after so many of what is left
pub one_more : {X : Type 0} (xs : List X) (a i : ℕ) (b : X) → slice_get xs (a + i) ≡ Some b → take (i + 1) (drop a xs) ≡ take i (drop a xs) ++ b ∷ []
one_more xs a i b e =
    let next : i + 1 ≡ suc i = omega arith in
    ap (λ n. take n (drop a xs)) next ∙ got (drop a xs) i b (get_dropped xs a i ∙ e)

-- a part that begins at an element, and one more
pub range_more : {X : Type 0} (xs : List X) (a i : ℕ) (d : X) → a ≤ i → i < length xs → slice_range xs a (i + 1) ≡ slice_range xs a i ++ get_or xs i d ∷ []
range_more xs a i d le lt =
    let n : i + 1 - a ≡ i - a + 1 = omega (arith, le) in
    let at : a + (i - a) ≡ i = omega (arith, le) in
    ap (λ k. take k (drop a xs)) n ∙ one_more xs a (i - a) (get_or xs i d) (ap (slice_get xs) at ∙ slice_get-get_or xs i d lt)

-- ---- what is appended

-- to a goal by what a growth of a list does, if it is one
pub appended : {A E : Type 0} (r : Result A E) (new whole old goal : List ℕ) → new ≡ (if is_ok r then whole else old) → whole ≡ goal → OnOk r (new ≡ goal)
appended (Ok a) new whole old goal e h = e ∙ h
appended (Err x) new whole old goal e h = tt

pub more : (out xs ys one two : List ℕ) → one ≡ out ++ xs → two ≡ one ++ ys → two ≡ out ++ (xs ++ ys)
more out xs ys one two h j = j ∙ ap (λ zs. zs ++ ys) h ∙ append_assoc out xs ys

pub three : (out a b c one two all : List ℕ) → one ≡ out ++ a → two ≡ one ++ b → all ≡ two ++ c → all ≡ out ++ ((a ++ b) ++ c)
three out a b c one two all h j k = more out (a ++ b) c two all (more out a b one two h j) k

pub five : (out a b c d e one two few four all : List ℕ) → one ≡ out ++ a → two ≡ one ++ b → few ≡ two ++ c → four ≡ few ++ d → all ≡ four ++ e
    → all ≡ out ++ ((((a ++ b) ++ c) ++ d) ++ e)
five out a b c d e one two few four all h j k l m =
    more out (((a ++ b) ++ c) ++ d) e four all (more out ((a ++ b) ++ c) d few four (three out a b c one two few h j k) l) m
