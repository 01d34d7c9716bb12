use Rattle.std.proofs.Common.{◌≡◌, ◌≢◌, ℕ, zero, suc, ◌+◌, ◌<◌, ◌≤◌, ◌==◌, ◌⊎◌, inl, inr, List, [], ◌∷◌, ◌++◌, length, drop, get_or, slice_set, slice_index, slice_get, Some, None, refl, sym, ap, ◌∙◌, arith, subst, zero-add, append_assoc, append-nil, get_or-set_same, get_or-set_other}
use Rattle.std.proofs.lemmas.Bool.{cases_eq, eq-eqb, ne_eqb}
use Rattle.mx_proc.specs.Queues.{tally, times, without, list_at, InNoList}
use Rattle.mx_proc.specs.Chains.{IsChain, chain, turned}
use Rattle.mx_proc.proofs.ListLemmas.{tally-same, tally-other, times-push, list_at-cases, total-le, length-total}

-- the links determine the list
pub chain-is : (n : ℕ) (links : List ℕ) (at : ℕ) (xs : List ℕ) → IsChain links at xs → length xs ≤ n → chain n links at ≡ xs
chain-is zero links at [] h b = refl
chain-is zero links at (x ∷ xs) h b = absurd (omega arith)
chain-is (suc n) links at [] h b = rw (eq-eqb at 255 h) refl
chain-is (suc n) links at (x ∷ xs) h b =
    let m : at ≢ 255 = omega (arith, h.0, h.1) in
    let rest : chain n links (slice_index links x) ≡ xs = chain-is n links (slice_index links x) xs h.2 (omega arith) in
    rw (ne_eqb at 255 m) (ap (λ y. y ∷ chain n links (slice_index links y)) h.0 ∙ ap (λ ys. x ∷ ys) rest)

-- a link of a slot that isn't there plays no part
pub chain_frame : (links : List ℕ) (s v at : ℕ) (xs : List ℕ) → times s xs ≡ 0 → IsChain links at xs → IsChain (slice_set links s v) at xs
chain_frame links s v at [] z h = h
chain_frame links s v at (x ∷ xs) z h =
    let m : x ≢ s = λ e. absurd (omega (arith, tally-same x s e)) in
    (h.0, h.1, subst (λ k. IsChain (slice_set links s v) k xs) (sym (get_or-set_other links s x v 0 m)) (chain_frame links s v (slice_index links x) xs (omega arith) h.2))

-- one more at the front
pub chain_front : (links : List ℕ) (s at : ℕ) (xs : List ℕ) → s < 32 → length links ≡ 32 → times s xs ≡ 0 → IsChain links at xs → IsChain (slice_set links s at) s (s ∷ xs)
chain_front links s at xs b k z h = (refl, b, subst (λ k. IsChain (slice_set links s at) k xs) (sym (get_or-set_same links s at 0 (omega arith))) (chain_frame links s at at xs z h))

-- one more at the end, after f
pub chain_end : (links : List ℕ) (s f at : ℕ) (xs : List ℕ) → s < 32 → length links ≡ 32 → slice_index links s ≡ 255 → s ≢ f → times f xs ≡ 0 → times s xs ≡ 0
    → IsChain links at (xs ++ f ∷ []) → IsChain (slice_set links f s) at ((xs ++ f ∷ []) ++ s ∷ [])
chain_end links s f at [] b k last m y z h =
    (h.0, h.1, (get_or-set_same links f s 0 (omega (arith, h.1)), b, get_or-set_other links f s s 0 m ∙ last))
chain_end links s f at (x ∷ xs) b k last m y z h =
    let d : x ≢ f = λ e. absurd (omega (arith, tally-same x f e)) in (
      h.0,
      h.1,
      subst (λ k. IsChain (slice_set links f s) k ((xs ++ f ∷ []) ++ s ∷ [])) (sym (get_or-set_other links f x s 0 d))
          (chain_end links s f (slice_index links x) xs b k last m (omega arith) (omega arith) h.2),
    )

-- one taken out after p
pub chain_cut : (links : List ℕ) (s p at : ℕ) (xs ys : List ℕ) → length links ≡ 32 → s ≢ p → times p xs ≡ 0 → times p ys ≡ 0
    → IsChain links at (xs ++ p ∷ s ∷ ys) → IsChain (slice_set links p (slice_index links s)) at (xs ++ p ∷ ys)
chain_cut links s p at [] ys k m x y h =
    (h.0, h.1, subst (λ j. IsChain (slice_set links p (slice_index links s)) j ys) (sym (get_or-set_same links p (slice_index links s) 0 (omega (arith, h.1)))) (chain_frame links p (slice_index links s) (slice_index links s) ys y h.2.2))
chain_cut links s p at (x ∷ xs) ys k m z y h =
    let d : x ≢ p = λ e. absurd (omega (arith, tally-same x p e)) in (
      h.0,
      h.1,
      subst (λ j. IsChain (slice_set links p (slice_index links s)) j (xs ++ p ∷ ys)) (sym (get_or-set_other links p x (slice_index links s) 0 d))
          (chain_cut links s p (slice_index links x) xs ys k m (omega arith) y h.2),
    )

pub times-turned : (s : ℕ) (xs : List ℕ) → times s (turned xs) ≡ times s xs
times-turned s [] = refl
times-turned s (x ∷ xs) = omega (arith, times-push s x (turned xs), times-turned s xs)

pub chain-below : (links : List ℕ) (at t : ℕ) (xs : List ℕ) → IsChain links at xs → 32 ≤ t → times t xs ≡ 0
chain-below links at t [] h b = refl
chain-below links at t (x ∷ xs) h b = omega (arith, tally-other x t (λ e. absurd (omega (arith, h.1))), chain-below links (slice_index links x) t xs h.2 b)

pub chain-short : (links : List ℕ) (at : ℕ) (xs : List ℕ) → IsChain links at xs → ((t : ℕ) → times t xs ≤ 1) → length xs ≤ 32
chain-short links at xs h o = omega (arith, length-total 32 xs (λ t b. chain-below links at t xs h b), total-le 32 xs o)

-- the counts after one more in one list
pub more-once : (lists : List (List ℕ)) (level s : ℕ) (xs : List ℕ) → level < length lists → InNoList lists s → ((t : ℕ) → times t xs ≡ tally (s == t) + times t (list_at lists level))
    → ((t l : ℕ) → times t (list_at lists l) ≤ 1) → (t l : ℕ) → times t (list_at (slice_set lists level xs) l) ≤ 1
more-once lists level s xs b no-s count once t l = elim (list_at-cases lists level l xs b) [
  | inl e ↦ subst (λ ys. times t ys ≤ 1) (sym e.1) (elim (cases_eq s t) [
    | inl q ↦ let z : times t (list_at lists level) ≡ 0 = subst (λ x. times x (list_at lists level) ≡ 0) q (no-s level) in omega (arith, count t, tally-same s t q)
    | inr q ↦ omega (arith, count t, tally-other s t q, once t level)
  ])
  | inr e ↦ subst (λ ys. times t ys ≤ 1) (sym e.1) (once t l)
]

-- where a slot was before
was : (lists : List (List ℕ)) (level s : ℕ) (xs : List ℕ) → level < length lists → ((t : ℕ) → times t xs ≡ tally (s == t) + times t (list_at lists level))
    → (t l : ℕ) → 1 ≤ times t (list_at (slice_set lists level xs) l) → ((s ≡ t) × (l ≡ level)) ⊎ (1 ≤ times t (list_at lists l))
was lists level s xs b count t l h = elim (list_at-cases lists level l xs b) [
  | inl e ↦ let k : 1 ≤ times t xs = subst (λ ys. 1 ≤ times t ys) e.1 h in elim (cases_eq s t) [
    | inl q ↦ inl (q, e.0)
    | inr q ↦ inr (let g : 1 ≤ times t (list_at lists level) = omega (arith, count t, tally-other s t q) in subst (λ x. 1 ≤ times t (list_at lists x)) (sym e.0) g)
  ]
  | inr e ↦ inr (subst (λ ys. 1 ≤ times t ys) e.1 h)
]

pub more-apart : (lists : List (List ℕ)) (level s : ℕ) (xs : List ℕ) → level < length lists → InNoList lists s → ((t : ℕ) → times t xs ≡ tally (s == t) + times t (list_at lists level))
    → ((t l k : ℕ) → 1 ≤ times t (list_at lists l) → 1 ≤ times t (list_at lists k) → l ≡ k)
    → (t l k : ℕ) → 1 ≤ times t (list_at (slice_set lists level xs) l) → 1 ≤ times t (list_at (slice_set lists level xs) k) → l ≡ k
more-apart lists level s xs b no-s count apart t l k g h = go (was lists level s xs b count t l g) (was lists level s xs b count t k h)
  where
    gone : (t x : ℕ) → s ≡ t → 1 ≤ times t (list_at lists x) → ⊥
    gone t x e m = let z : times t (list_at lists x) ≡ 0 = subst (λ y. times y (list_at lists x) ≡ 0) e (no-s x) in absurd (omega arith)

    go : ((s ≡ t) × (l ≡ level)) ⊎ (1 ≤ times t (list_at lists l)) → ((s ≡ t) × (k ≡ level)) ⊎ (1 ≤ times t (list_at lists k)) → l ≡ k
    go (inl x) (inl y) = x.1 ∙ sym y.1
    go (inl x) (inr y) = absurd (gone t k x.0 y)
    go (inr x) (inl y) = absurd (gone t l y.0 x)
    go (inr x) (inr y) = apart t l k x y

-- what holds of each head and list holds where one of each is replaced
pub replaced : (P : ℕ → List ℕ → Type 0) (firsts : List ℕ) (lists : List (List ℕ)) (level at : ℕ) (xs : List ℕ) → level < length firsts → level < length lists → P at xs
    → ((l : ℕ) → l ≢ level → P (get_or firsts l 255) (list_at lists l)) → (l : ℕ) → P (get_or (slice_set firsts level at) l 255) (list_at (slice_set lists level xs) l)
replaced P firsts lists level at xs b c new old l = elim (cases_eq l level) [
  | inl e ↦ subst (λ k. P (get_or (slice_set firsts level at) k 255) (list_at (slice_set lists level xs) k)) (sym e)
      (subst (λ y. P y (list_at (slice_set lists level xs) level)) (sym (get_or-set_same firsts level at 255 b)) (subst (P at) (sym (get_or-set_same lists level xs [] c)) new))
  | inr n ↦ subst (λ y. P y (list_at (slice_set lists level xs) l)) (sym (get_or-set_other firsts level l at 255 n)) (subst (P (get_or firsts l 255)) (sym (get_or-set_other lists level l xs [] n)) (old l n))
]

-- the same where the firsts stay
pub kept : (P : ℕ → List ℕ → Type 0) (firsts : List ℕ) (lists : List (List ℕ)) (level : ℕ) (xs : List ℕ) → level < length lists → P (get_or firsts level 255) xs
    → ((l : ℕ) → l ≢ level → P (get_or firsts l 255) (list_at lists l)) → (l : ℕ) → P (get_or firsts l 255) (list_at (slice_set lists level xs) l)
kept P firsts lists level xs c new old l = elim (cases_eq l level) [
  | inl e ↦ subst (λ k. P (get_or firsts k 255) (list_at (slice_set lists level xs) k)) (sym e) (subst (P (get_or firsts level 255)) (sym (get_or-set_same lists level xs [] c)) new)
  | inr n ↦ subst (P (get_or firsts l 255)) (sym (get_or-set_other lists level l xs [] n)) (old l n)
]

pub empty_at : (links : List ℕ) (at : ℕ) (xs : List ℕ) → IsChain links at xs → at ≡ 255 → xs ≡ []
empty_at links at [] h e = refl
empty_at links at (x ∷ xs) h e = absurd (omega (arith, h.0, h.1))

pub more_at : (links : List ℕ) (at : ℕ) (xs : List ℕ) → IsChain links at xs → at ≢ 255 → xs ≡ at ∷ drop 1 xs
more_at links at [] h n = absurd (n h)
more_at links at (x ∷ xs) h n = ap (λ y. y ∷ xs) (sym h.0)

-- from a slot of the chain on
pub chain_after : (links : List ℕ) (s at : ℕ) (xs ys : List ℕ) → IsChain links at (xs ++ s ∷ ys) → IsChain links (slice_index links s) ys
chain_after links s at [] ys h = h.2
chain_after links s at (x ∷ xs) ys h = chain_after links s (slice_index links x) xs ys h.2

-- ---- along the links

-- the slot at a place
pub placed : (links : List ℕ) (at j k : ℕ) (xs : List ℕ) → IsChain links at (drop j xs) → at ≢ 255 → j ≡ k → slice_get xs k ≡ Some at
placed links at zero k [] h n e = absurd (n h)
placed links at (suc j) k [] h n e = absurd (n h)
placed links at zero zero (x ∷ xs) h n e = ap Some (sym h.0)
placed links at zero (suc k) (x ∷ xs) h n e = absurd (omega (arith, e))
placed links at (suc j) zero (x ∷ xs) h n e = absurd (omega (arith, e))
placed links at (suc j) (suc k) (x ∷ xs) h n e = placed links at j k xs h n (omega (arith, e))

-- there are more slots than come before one
pub within : (links : List ℕ) (at k : ℕ) (xs : List ℕ) → IsChain links at (drop k xs) → at ≢ 255 → k < length xs
within links at zero [] h n = absurd (n h)
within links at zero (x ∷ xs) h n = omega arith
within links at (suc k) [] h n = absurd (n h)
within links at (suc k) (x ∷ xs) h n = omega (arith, within links at k xs h n)

-- no slot from the end of a list on
pub unplaced : (links : List ℕ) (at j k : ℕ) (xs : List ℕ) → IsChain links at (drop j xs) → at ≡ 255 → j ≤ k → slice_get xs k ≡ None
unplaced links at j k [] h e b = refl
unplaced links at zero k (x ∷ xs) h e b = absurd (omega (arith, h.0, h.1))
unplaced links at (suc j) zero (x ∷ xs) h e b = absurd (omega arith)
unplaced links at (suc j) (suc k) (x ∷ xs) h e b = unplaced links at j k xs h e (omega arith)

-- one link on
one_more : (links : List ℕ) (at k : ℕ) (xs : List ℕ) → IsChain links at (drop k xs) → at ≢ 255 → (at < 32) × IsChain links (slice_index links at) (drop (suc k) xs)
one_more links at zero [] h n = absurd (n h)
one_more links at zero (x ∷ xs) h n = (omega (arith, h.0, h.1), subst (λ y. IsChain links (slice_index links y) xs) (sym h.0) h.2)
one_more links at (suc k) [] h n = absurd (n h)
one_more links at (suc k) (x ∷ xs) h n = one_more links at k xs h n

pub one_on : (links : List ℕ) (at k : ℕ) (xs : List ℕ) → IsChain links at (drop k xs) → at ≢ 255 → (at < 32) × IsChain links (slice_index links at) (drop (k + 1) xs)
one_on links at k xs h n =
    let more = one_more links at k xs h n in
    let e : suc k ≡ k + 1 = omega arith in
    (more.0, subst (λ j. IsChain links (slice_index links at) (drop j xs)) e more.1)

pub turned-push : (xs : List ℕ) (p : ℕ) → turned (xs ++ p ∷ []) ≡ p ∷ turned xs
turned-push [] p = refl
turned-push (x ∷ xs) p = ap (λ ys. ys ++ x ∷ []) (turned-push xs p)

pub turned-append : (xs ys : List ℕ) → turned (xs ++ ys) ≡ turned ys ++ turned xs
turned-append [] ys = sym (append-nil (turned ys))
turned-append (x ∷ xs) ys = ap (λ zs. zs ++ x ∷ []) (turned-append xs ys) ∙ append_assoc (turned ys) (turned xs) (x ∷ [])

-- a list ends nowhere or in a slot
pub data Ends : List ℕ → Type 0 where
  nowhere : Ends []
  at_slot : (xs : List ℕ) (p : ℕ) → Ends (xs ++ p ∷ [])

ends : (xs : List ℕ) → Ends xs
ends [] = nowhere
ends (x ∷ xs) = more x xs (ends xs)
  where
    more : (x : ℕ) (xs : List ℕ) → Ends xs → Ends (x ∷ xs)
    more x _ nowhere = at_slot [] x
    more x _ (at_slot ys p) = at_slot (x ∷ ys) p

times-append : (t : ℕ) (xs ys : List ℕ) → times t (xs ++ ys) ≡ times t xs + times t ys
times-append t [] ys = sym (zero-add _)
times-append t (x ∷ xs) ys = omega (arith, times-append t xs ys)

-- What is left of a chain, where p is the slot before the one that goes.
abbrev pub Out : List ℕ → ℕ → ℕ → ℕ → List ℕ → Type 0
Out links at s p rest = ((p ≡ 255) × IsChain links (slice_index links s) rest) ⊎ ((p < 32) × (1 ≤ times p rest) × (p ≢ s) × IsChain (slice_set links p (slice_index links s)) at rest)

pub chain_out : (links other : List ℕ) (s at to : ℕ) (xs ys : List ℕ) → length links ≡ 32 → ((t : ℕ) → times t (xs ++ s ∷ ys) ≤ 1)
    → IsChain links at (xs ++ s ∷ ys) → IsChain other to (turned xs) → Out links at s to (xs ++ ys)
chain_out links other s at to xs ys k once h g = go xs (ends xs) once h g
  where
    go : (xs : List ℕ) → Ends xs → ((t : ℕ) → times t (xs ++ s ∷ ys) ≤ 1) → IsChain links at (xs ++ s ∷ ys) → IsChain other to (turned xs) → Out links at s to (xs ++ ys)
    go _ nowhere once h g = inl (g, h.2)
    go _ (at_slot us p) once h g =
        let first : IsChain other to (p ∷ turned us) = subst (IsChain other to) (turned-push us p) g in
        let e : (us ++ p ∷ []) ++ s ∷ ys ≡ us ++ p ∷ s ∷ ys = append_assoc us (p ∷ []) (s ∷ ys) in
        let f : (us ++ p ∷ []) ++ ys ≡ us ++ p ∷ ys = append_assoc us (p ∷ []) ys in
        let o : (t : ℕ) → times t us + (tally (p == t) + (tally (s == t) + times t ys)) ≤ 1 = λ t. subst (λ n. n ≤ 1) (ap (times t) e ∙ times-append t us (p ∷ s ∷ ys)) (once t) in
        let differ : s ≢ p = λ q. absurd (omega (arith, o p, tally-same p p refl, tally-same s p q)) in
        let cut : IsChain (slice_set links p (slice_index links s)) at (us ++ p ∷ ys) = chain_cut links s p at us ys k differ (omega (arith, o p, tally-same p p refl)) (omega (arith, o p, tally-same p p refl)) (subst (IsChain links at) e h) in
        subst (λ x. Out links at s x ((us ++ p ∷ []) ++ ys)) (sym first.0) (inr (first.1, omega (arith, ap (times p) f, times-append p us (p ∷ ys), tally-same p p refl), (λ q. differ (sym q)), subst (IsChain (slice_set links p (slice_index links s)) at) (sym f) cut))

pub turned-turned : (xs : List ℕ) → turned (turned xs) ≡ xs
turned-turned [] = refl
turned-turned (x ∷ xs) = turned-push (turned xs) x ∙ ap (λ ys. x ∷ ys) (turned-turned xs)

pub without-absent : (s : ℕ) (xs : List ℕ) → times s xs ≡ 0 → without s xs ≡ xs
without-absent s [] z = refl
without-absent s (x ∷ xs) z = elim (cases_eq x s) [
  | inl e ↦ absurd (omega (arith, tally-same x s e))
  | inr n ↦ rw (ne_eqb x s n) (ap (λ ys. x ∷ ys) (without-absent s xs (omega arith)))
]

-- A list round a slot that is in it once.
pub record Round (s : ℕ) (xs : List ℕ) : Type 0 where
  pub front : List ℕ
  pub rest : List ℕ
  pub is : xs ≡ front ++ s ∷ rest
  pub left : without s xs ≡ front ++ rest

rounded : (s x : ℕ) (xs : List ℕ) → x ≢ s → Round s xs → Round s (x ∷ xs)
rounded s x xs n r = record { front = x ∷ r.front; rest = r.rest; is = ap (λ ys. x ∷ ys) r.is; left = rw (ne_eqb x s n) (ap (λ ys. x ∷ ys) r.left) }

pub round : (s : ℕ) (xs : List ℕ) → times s xs ≡ 1 → Round s xs
round s [] h = absurd (omega arith)
round s (x ∷ xs) h = elim (cases_eq x s) [
  | inl e ↦ record { front = []; rest = xs; is = ap (λ y. y ∷ xs) e; left = rw (eq-eqb x s e) (without-absent s xs (omega (arith, tally-same x s e))) }
  | inr n ↦ rounded s x xs n (round s xs (omega (arith, tally-other x s n)))
]
