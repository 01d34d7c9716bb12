use Rattle.std.proofs.Common.{◌≡◌, ◌≢◌, ℕ, zero, suc, ◌+◌, ◌≤◌, ◌==◌, zero-add, ◌||◌, ◌&&◌, ◌⊎◌, inl, inr, true, cond, not, List, [], ◌∷◌, ◌++◌, length, Option, Some, None, refl, sym, ap, ◌∙◌, arith, subst}
use Rattle.std.proofs.lemmas.Bool.{cases_eq, eq-eqb, ne_eqb, eqb-true, cases_Bool, and_parts, or_cases, or_left, or_right}
use Rattle.mx_proc.specs.declared.process.Partner.{Partner}
use Rattle.mx_proc.specs.Partners.{may_be}
use Rattle.mx_proc.specs.Queues.{tally}
use Rattle.mx_proc.specs.Waits.{sends_of, without_from, next_of, caller_of, IsPair, Reaches, one_pair, and_then, Acyclic, if_some, walk}

-- the next is by a pair
pub pair_next : (pairs : List (ℕ × ℕ)) (p q : ℕ) → next_of p pairs ≡ Some q → IsPair pairs p q
pair_next [] p q h = cc
pair_next (e ∷ es) p q h = elim (cases_eq e.0 p) [
  | inl is ↦ let k : cond true (Some e.1) (next_of p es) ≡ Some q = subst (λ b. cond b (Some e.1) (next_of p es) ≡ Some q) (eq-eqb e.0 p is) h in inl (is, cc)
  | inr differs ↦ inr (pair_next es p q (subst (λ b. cond b (Some e.1) (next_of p es) ≡ Some q) (ne_eqb e.0 p differs) h))
]

-- a pair counts
pub sends-pair : (pairs : List (ℕ × ℕ)) (p q : ℕ) → IsPair pairs p q → 1 ≤ sends_of p pairs
sends-pair [] p q h = absurd h
sends-pair (e ∷ es) p q (inl h) = omega (arith, ap tally (eq-eqb e.0 p h.0))
sends-pair (e ∷ es) p q (inr h) = omega (arith, sends-pair es p q h)

-- where a slot sends at most once, its pair is the next
pub next_pair : (pairs : List (ℕ × ℕ)) (p q : ℕ) → sends_of p pairs ≤ 1 → IsPair pairs p q → next_of p pairs ≡ Some q
next_pair [] p q u h = absurd h
next_pair (e ∷ es) p q u (inl h) = rw (eq-eqb e.0 p h.0) (ap Some h.1)
next_pair (e ∷ es) p q u (inr h) = elim (cases_eq e.0 p) [
  | inl is ↦ absurd (omega (arith, ap tally (eq-eqb e.0 p is), sends-pair es p q h))
  | inr differs ↦ rw (ne_eqb e.0 p differs) (next_pair es p q (omega arith) h)
]

-- what is left without the pairs from a slot
pub pair_without : (pairs : List (ℕ × ℕ)) (s p q : ℕ) → IsPair (without_from s pairs) p q → IsPair pairs p q
pair_without [] s p q h = absurd h
pair_without (e ∷ es) s p q h = elim (cases_eq e.0 s) [
  | inl is ↦ inr (pair_without es s p q (subst (λ b. IsPair (cond (not b) (e ∷ without_from s es) (without_from s es)) p q) (eq-eqb e.0 s is) h))
  | inr differs ↦ kept e es s p q (subst (λ b. IsPair (cond (not b) (e ∷ without_from s es) (without_from s es)) p q) (ne_eqb e.0 s differs) h) (pair_without es s p q)
]
  where
    kept : (e : ℕ × ℕ) (es : List (ℕ × ℕ)) (s p q : ℕ) → IsPair (e ∷ without_from s es) p q → (IsPair (without_from s es) p q → IsPair es p q) → IsPair (e ∷ es) p q
    kept e es s p q (inl h) f = inl h
    kept e es s p q (inr h) f = inr (f h)

pub pair_other : (pairs : List (ℕ × ℕ)) (s p q : ℕ) → p ≢ s → IsPair pairs p q → IsPair (without_from s pairs) p q
pair_other [] s p q n h = absurd h
pair_other (e ∷ es) s p q n (inl h) = let m : e.0 ≢ s = λ k. n (sym h.0 ∙ k) in rw (ne_eqb e.0 s m) (inl h)
pair_other (e ∷ es) s p q n (inr h) = elim (cases_eq e.0 s) [
  | inl is ↦ rw (eq-eqb e.0 s is) (pair_other es s p q n h)
  | inr differs ↦ rw (ne_eqb e.0 s differs) (inr (pair_other es s p q n h))
]

pub length-without_from : (pairs : List (ℕ × ℕ)) (s : ℕ) → length (without_from s pairs) + sends_of s pairs ≡ length pairs
length-without_from [] s = refl
length-without_from (e ∷ es) s = elim (cases_eq e.0 s) [
  | inl is ↦ rw (eq-eqb e.0 s is) (omega (arith, length-without_from es s))
  | inr differs ↦ rw (ne_eqb e.0 s differs) (omega (arith, length-without_from es s))
]

-- fewer pairs lead no further
pub reaches_more : (v w : List (ℕ × ℕ)) → ((p q : ℕ) → IsPair v p q → IsPair w p q) → (p q : ℕ) → Reaches v p q → Reaches w p q
reaches_more v w f _ _ (one_pair p q h) = one_pair p q (f p q h)
reaches_more v w f _ _ (and_then p q r h g) = and_then p q r (f p q h) (reaches_more v w f q r g)

pub reaches_along : (w : List (ℕ × ℕ)) (p q r : ℕ) → Reaches w p q → Reaches w q r → Reaches w p r
reaches_along w _ _ r (one_pair p q h) g = and_then p q r h g
reaches_along w _ _ r (and_then p x q h f) g = and_then p x r h (reaches_along w x q r f g)

-- on from a place that p leads to, the pairs from p play no part
pub reaches_trimmed : (w : List (ℕ × ℕ)) (s : ℕ) → Acyclic w → (p q : ℕ) → Reaches w s p → Reaches w p q → Reaches (without_from s w) p q
reaches_trimmed w s a _ _ f (one_pair p q h) = one_pair p q (pair_other w s p q (λ e. a s (subst (Reaches w s) e f)) h)
reaches_trimmed w s a _ _ f (and_then p q r h g) =
    and_then p q r (pair_other w s p q (λ e. a s (subst (Reaches w s) e f)) h) (reaches_trimmed w s a q r (reaches_along w s p q f (one_pair p q h)) g)

met : (n : ℕ) (w : List (ℕ × ℕ)) (p q : ℕ) (o : Option ℕ) → next_of p w ≡ o → if_some o (λ x. (x == q) || walk n w x q) ≡ true → ((x : ℕ) → walk n w x q ≡ true → Reaches w x q) → Reaches w p q
met n w p q None is k f = cc
met n w p q (Some x) is k f = elim (or_cases (x == q) (walk n w x q) k) [
  | inl e ↦ one_pair p q (subst (IsPair w p) (eqb-true x q e) (pair_next w p x is))
  | inr g ↦ and_then p x q (pair_next w p x is) (f x g)
]

-- what the walk meets is reached
pub reaches_walk : (n : ℕ) (w : List (ℕ × ℕ)) (p q : ℕ) → walk n w p q ≡ true → Reaches w p q
reaches_walk zero w p q h = cc
reaches_walk (suc n) w p q h = met n w p q (next_of p w) refl h (λ x. reaches_walk n w x q)

-- what is reached by these pairs, the walk meets within as many
walk_part : (n : ℕ) (v w : List (ℕ × ℕ)) → ((p q : ℕ) → IsPair v p q → next_of p w ≡ Some q) → Acyclic v → length v ≤ n → (p q : ℕ) → Reaches v p q → walk n w p q ≡ true
walk_part zero [] w f a b _ _ (one_pair p q h) = absurd h
walk_part zero [] w f a b _ _ (and_then p q r h g) = absurd h
walk_part zero (e ∷ es) w f a b p q g = absurd (omega arith)
walk_part (suc n) v w f a b _ _ (one_pair p q h) = rw (f p q h) (or_left (q == q) (walk n w q q) (eq-eqb q q refl))
walk_part (suc n) v w f a b _ _ (and_then p q r h g) =
    let fewer : length (without_from p v) ≤ n = omega (arith, length-without_from v p, sends-pair v p q h) in
    let rest : walk n w q r ≡ true = walk_part n (without_from p v) w (λ x y k. f x y (pair_without v p x y k))
    (λ x k. a x (reaches_more (without_from p v) v (pair_without v p) x x k)) fewer q r
    (reaches_trimmed v p a q r (one_pair p q h) g) in
    rw (f p q h) (or_right (q == r) (walk n w q r) rest)

pub walk_reaches : (n : ℕ) (w : List (ℕ × ℕ)) → ((p : ℕ) → sends_of p w ≤ 1) → Acyclic w → length w ≤ n → (p q : ℕ) → Reaches w p q → walk n w p q ≡ true
walk_reaches n w u a b p q = walk_part n w w (λ x y. next_pair w x y (u x)) a b p q

-- one more pair
pub pair_push : (w : List (ℕ × ℕ)) (c d p q : ℕ) → IsPair (w ++ (c, d) ∷ []) p q → IsPair w p q ⊎ ((c ≡ p) × (d ≡ q))
pair_push [] c d p q (inl h) = inr h
pair_push [] c d p q (inr h) = absurd h
pair_push (e ∷ es) c d p q (inl h) = inl (inl h)
pair_push (e ∷ es) c d p q (inr h) = elim (pair_push es c d p q h) [ inl k ↦ inl (inr k) | inr k ↦ inr k ]

-- equal, or led to
abbrev Upto : List (ℕ × ℕ) → ℕ → ℕ → Type 0
Upto w p q = (p ≡ q) ⊎ Reaches w p q

reaches_push : (w : List (ℕ × ℕ)) (c d p q : ℕ) → Reaches (w ++ (c, d) ∷ []) p q → Reaches w p q ⊎ (Upto w p c × Upto w d q)
reaches_push w c d _ _ (one_pair p q h) = elim (pair_push w c d p q h) [
  | inl k ↦ inl (one_pair p q k)
  | inr k ↦ inr (inl (sym k.0), inl k.1)
]
reaches_push w c d _ _ (and_then p q r h g) = elim (pair_push w c d p q h) [
  | inl k ↦ elim (reaches_push w c d q r g) [
    | inl m ↦ inl (and_then p q r k m)
    | inr m ↦ inr (elim m.0 [ inl e ↦ inr (one_pair p c (subst (IsPair w p) e k)) | inr f ↦ inr (and_then p q c k f) ], m.1)
  ]
  | inr k ↦ inr (
    inl (sym k.0),
    elim (reaches_push w c d q r g) [
      | inl m ↦ inr (subst (λ x. Reaches w x r) (sym k.1) m)
      | inr m ↦ m.1
    ],
  )
]

-- a new pair makes no circle where its end doesn't lead to its beginning
pub acyclic_push : (w : List (ℕ × ℕ)) (c d : ℕ) → Acyclic w → (Upto w d c → ⊥) → Acyclic (w ++ (c, d) ∷ [])
acyclic_push w c d a apart p h = elim (reaches_push w c d p p h) [
  | inl k ↦ a p k
  | inr k ↦ apart (join k.1 k.0)
]
  where
    join : Upto w d p → Upto w p c → Upto w d c
    join (inl e) (inl f) = inl (e ∙ f)
    join (inl e) (inr f) = inr (subst (λ x. Reaches w x c) (sym e) f)
    join (inr e) (inl f) = inr (subst (Reaches w d) f e)
    join (inr e) (inr f) = inr (reaches_along w d p c e f)

pub acyclic_without : (w : List (ℕ × ℕ)) (s : ℕ) → Acyclic w → Acyclic (without_from s w)
acyclic_without w s a p h = a p (reaches_more (without_from s w) w (pair_without w s) p p h)

-- one step of the walk
pub walk-step : (m n : ℕ) (w : List (ℕ × ℕ)) (p q x : ℕ) → m ≡ n + 1 → next_of p w ≡ Some x → (x ≡ q → ⊥) → walk n w x q ≡ walk m w p q
walk-step zero n w p q x e is apart = absurd (omega arith)
walk-step (suc m) n w p q x e is apart = let k : n ≡ m = omega arith in
    ap (λ n. walk n w x q) k ∙ sym (rw is (rw (ne_eqb x q apart) refl))

-- the first caller is in a pair
pub pair_caller : (w : List (ℕ × ℕ)) (s p : ℕ) (partner : Partner) → caller_of s partner w ≡ Some p → IsPair w p s
pair_caller [] s p partner h = cc
pair_caller (e ∷ es) s p partner h = elim (cases_Bool ((e.1 == s) && may_be partner (2 + e.0))) [
  | inl y ↦ let k : cond true (Some e.0) (caller_of s partner es) ≡ Some p = subst (λ b. cond b (Some e.0) (caller_of s partner es) ≡ Some p) y h in
      inl (cc, eqb-true e.1 s (and_parts (e.1 == s) (may_be partner (2 + e.0)) y).0)
  | inr n ↦ inr (pair_caller es s p partner (subst (λ b. cond b (Some e.0) (caller_of s partner es) ≡ Some p) n h))
]

-- ---- how many pairs are from a slot

pub sends-without_same : (s : ℕ) (ps : List (ℕ × ℕ)) → sends_of s (without_from s ps) ≡ 0
sends-without_same s [] = refl
sends-without_same s (x ∷ xs) = elim (cases_eq x.0 s) [
  | inl e ↦ rw (eq-eqb x.0 s e) (sends-without_same s xs)
  | inr n ↦ rw (ne_eqb x.0 s n) (rw (ne_eqb x.0 s n) (zero-add _ ∙ sends-without_same s xs))
]

pub sends-without_other : (s t : ℕ) (ps : List (ℕ × ℕ)) → t ≢ s → sends_of t (without_from s ps) ≡ sends_of t ps
sends-without_other s t [] n = refl
sends-without_other s t (x ∷ xs) n = elim (cases_eq x.0 s) [
  | inl e ↦ let m : x.0 ≢ t = λ f. n (sym f ∙ e) in rw (eq-eqb x.0 s e) (rw (ne_eqb x.0 t m) (sends-without_other s t xs n ∙ sym (zero-add _)))
  | inr m ↦ rw (ne_eqb x.0 s m) (ap (λ k. tally (x.0 == t) + k) (sends-without_other s t xs n))
]

pub sends-push : (t s d : ℕ) (ps : List (ℕ × ℕ)) → sends_of t (ps ++ (s, d) ∷ []) ≡ tally (s == t) + sends_of t ps
sends-push t s d [] = refl
sends-push t s d (x ∷ xs) = omega (arith, sends-push t s d xs)
