-- What is shown of a work, one part more.
use Rattle.std.proofs.Common.{◌≡◌, ◌∙◌, ◌≤◌, ℕ, zero, suc, ◌+◌, ◌-◌, List, [], ◌∷◌, ◌++◌, append_assoc, map, inl, inr, refl, ap, sym, arith}
use Rattle.std.specs.List.{range_with_len}
use Rattle.std.proofs.lemmas.List.{append-nil, map-append}
use Rattle.std.proofs.lemmas.List.FromFn.{map-range_with_len_more}
use Rattle.mx_walk.specs.declared.positions.Position.{Position}
use Rattle.mx_walk.specs.Positions.{IsUpTo}
use Rattle.mx_walk.specs.declared.progress.Part.{Part}
use Rattle.mx_walk.specs.Parts.{part_after, parts_between, parts_shown}

part_more : (all n : ℕ) → parts_shown all (n + 1) ≡ parts_shown all n ++ part_after all n ∷ []
part_more all n = let z : 0 + n ≡ n = omega arith in map-range_with_len_more (part_after all) 0 n n z

pub next_shown : (all m n k : ℕ) (before now then : List Part) (x : Part) → n ≡ m + 1 → k ≡ n → x ≡ record { done = k; all = all } → now ≡ before ++ parts_shown all m → then ≡ now ++ x ∷ [] → then ≡ before ++ parts_shown all n
next_shown all m n k before now then x next same is shown more =
    let part : x ≡ part_after all m = is ∙ ap (λ i. let y : Part = record { done = i; all = all } in y) (same ∙ next) in
    more ∙ ap (λ (l : List Part). l ++ x ∷ []) shown ∙ append_assoc before (parts_shown all m) (x ∷ [])
    ∙ ap (λ (y : Part). before ++ (parts_shown all m ++ y ∷ [])) part
    ∙ ap (λ (l : List Part). before ++ l) (sym (part_more all m))
    ∙ ap (λ i. before ++ parts_shown all i) (sym next)

-- ---- and between two places

pub none_between : (all m : ℕ) (before : List Part) → before ≡ before ++ parts_between all m m
none_between all m before =
    let none : 0 ≡ m - m = omega arith in
    sym (append-nil before) ∙ ap (λ i. before ++ map (part_after all) (range_with_len m i)) none

pub next_between : (all len m n : ℕ) (before now then : List Part) → m ≤ n → len ≡ all → now ≡ before ++ parts_between all m n → then ≡ now ++ part_after len n ∷ [] → then ≡ before ++ parts_between all m (n + 1)
next_between all len m n before now then le same shown more =
    let one : (n - m) + 1 ≡ (n + 1) - m = omega (arith, le) in
    let place : m + (n - m) ≡ n = omega (arith, le) in
    more ∙ ap (λ (k : ℕ). now ++ part_after k n ∷ []) same
    ∙ ap (λ (l : List Part). l ++ part_after all n ∷ []) shown ∙ append_assoc before (parts_between all m n) (part_after all n ∷ [])
    ∙ ap (λ (l : List Part). before ++ l) (sym (map-range_with_len_more (part_after all) m (n - m) n place))
    ∙ ap (λ i. before ++ map (part_after all) (range_with_len m i)) one

range_joined : (a n b m k : ℕ) → a + n ≡ b → n + m ≡ k → range_with_len a n ++ range_with_len b m ≡ range_with_len a k
range_joined a zero b m k e f =
    let first : b ≡ a = omega (arith, e) in
    let long : m ≡ k = omega (arith, f) in
    ap (λ i. range_with_len i m) first ∙ ap (λ i. range_with_len a i) long
range_joined a (suc n) b m k e f =
    let long : suc (n + m) ≡ k = omega (arith, f) in
    ap (λ (xs : List ℕ). a ∷ xs) (range_joined (a + 1) n b m (n + m) (omega (arith, e)) refl) ∙ ap (λ i. range_with_len a i) long

-- what is between two places, and then between the second and a third
pub joined : (all m n k : ℕ) → m ≤ n → n ≤ k → parts_between all m n ++ parts_between all n k ≡ parts_between all m k
joined all m n k le ge =
    sym (map-append (part_after all) (range_with_len m (n - m)) (range_with_len n (k - n)))
    ∙ ap (λ (is : List ℕ). map (part_after all) is) (range_joined m (n - m) n (k - n) (k - m) (omega (arith, le)) (omega (arith, le, ge)))

pub then_between : (all m n k : ℕ) (before now then : List Part) → m ≤ n → n ≤ k → now ≡ before ++ parts_between all m n → then ≡ now ++ parts_between all n k → then ≡ before ++ parts_between all m k
then_between all m n k before now then le ge shown more =
    more ∙ ap (λ (l : List Part). l ++ parts_between all n k) shown ∙ append_assoc before (parts_between all m n) (parts_between all n k)
    ∙ ap (λ (l : List Part). before ++ l) (joined all m n k le ge)

-- a walk is never above where it began
pub after_place : (p q : Position) (k : ℕ) → IsUpTo p q → q.records ≡ k → p.records ≤ k
after_place p q k (inl lt) e = omega (arith, lt, e)
after_place p q k (inr h) e = let same = h.0 in omega (arith, same, e)

-- all that is between the first place and another
pub all_between : (all n : ℕ) → parts_between all 0 n ≡ parts_shown all n
all_between all n = let e : n - 0 ≡ n = omega arith in ap (λ i. map (part_after all) (range_with_len 0 i)) e

-- as many parts from one place on
pub up_to : (all m n k : ℕ) (before : List Part) → n - m ≡ k - m → before ++ parts_between all m n ≡ before ++ parts_between all m k
up_to all m n k before e = ap (λ i. before ++ map (part_after all) (range_with_len m i)) e
