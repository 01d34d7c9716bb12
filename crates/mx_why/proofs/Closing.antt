-- A chain of who waits for whom that closes goes on for ever.
use Rattle.std.proofs.Common.{◌≡◌, ◌∙◌, ℕ, zero, suc, ◌+◌, ◌==◌, Bool, true, false, cond, Option, Some, None, refl, sym, subst, slice_get, inl, inr, arith}
use Rattle.std.specs.Prelude.{nat_le}
use Rattle.std.specs.List.{list_all}
use Rattle.std.proofs.lemmas.Bool.{eqb-true, false≢true, or_cases}
use Rattle.mx_why.specs.declared.seats.End.{End}
use Rattle.mx_why.specs.declared.verdicts.Verdict.{Verdict}
use Rattle.mx_why.specs.Verdicts.{by_ring, closed, in_ring, is_in, ring_in}
use Rattle.mx_why.specs.Waiting.{and_on, chain, chain_of, waits_for}

-- the chain from a slot on has n slots or more
abbrev pub Goes : End → ℕ → ℕ → Type 0
Goes e zero p = Unit {0}
Goes e (suc n) p = (q : ℕ) × (waits_for e p ≡ Some q) × Goes e n q

-- it leads to a slot after n steps
abbrev pub Path : End → ℕ → ℕ → ℕ → Type 0
Path e zero p r = p ≡ r
Path e (suc n) p r = (q : ℕ) × (waits_for e p ≡ Some q) × Path e n q r

path_goes : (e : End) (k m p r : ℕ) → Path e k p r → Goes e m r → Goes e (k + m) p
path_goes e zero m p r h g = let same : m ≡ zero + m = omega arith in subst (λ i. Goes e i p) same (subst (Goes e m) (sym h) g)
path_goes e (suc k) m p r h g = let same : suc (k + m) ≡ suc k + m = omega arith in subst (λ i. Goes e i p) same (h.0, h.1, path_goes e k m h.0 r h.2 g)

less : (e : End) (m p : ℕ) → Goes e (suc m) p → Goes e m p
less e zero p g = tt
less e (suc m) p g = (g.0, g.1, less e m g.0 g.2)

shorter : (e : End) (k m p : ℕ) → Goes e (k + m) p → Goes e m p
shorter e zero m p g = let same : zero + m ≡ m = omega arith in subst (λ i. Goes e i p) same g
shorter e (suc k) m p g = let same : suc k + m ≡ suc (k + m) = omega arith in shorter e k m p (less e (k + m) p (subst (λ i. Goes e i p) same g))

-- round and round
cycle : (e : End) (k r : ℕ) → Path e (suc k) r r → (m : ℕ) → Goes e m r
cycle e k r h zero = tt
cycle e k r h (suc m) = let same : suc k + m ≡ k + suc m = omega arith in shorter e k (suc m) r (subst (λ i. Goes e i r) same (path_goes e (suc k) m r r h (cycle e k r h m)))

-- and to there
leads : (e : End) (k s r : ℕ) → Path e k s r → ((m : ℕ) → Goes e m r) → (m : ℕ) → Goes e m s
leads e k s r h g m = shorter e k m s (path_goes e k m s r h (g m))

some_is : {p q : ℕ} → Some p ≡ Some q → p ≡ q
some_is e = cc

none_some : {X : Type 0} {x : X} → None ≡ Some x → ⊥
none_some e = cc

in_path : (e : End) (n s r : ℕ) → is_in (chain_of n e s) r ≡ true → (k : ℕ) × Path e (suc k) s r
in_path e zero s r h = absurd (false≢true h)
in_path e (suc n) s r h = by_next (waits_for e s) refl (λ q. in_path e n q r) h
  where
    by_next : (o : Option ℕ) → waits_for e s ≡ o → ((q : ℕ) → is_in (chain_of n e q) r ≡ true → (k : ℕ) × Path e (suc k) q r) → is_in (and_on o (chain_of n e)) r ≡ true
        → (k : ℕ) × Path e (suc k) s r
    by_next None f on i = absurd (false≢true i)
    by_next (Some q) f on i = elim (or_cases (q == r) (is_in (chain_of n e q) r) i) [
      | inl same ↦ (zero, (q, f, eqb-true q r same))
      | inr more ↦ let k = on q more in (suc k.0, (q, f, k.1))
    ]

ring_goes : (e : End) (n s r : ℕ) → ring_in (chain_of n e s) ≡ Some r → (m : ℕ) → Goes e m s
ring_goes e zero s r h m = absurd (none_some h)
ring_goes e (suc n) s r h m = by_next (waits_for e s) refl (λ q. ring_goes e n q r) h
  where
    by_bool : (q : ℕ) (b : Bool) → waits_for e s ≡ Some q → (ring_in (chain_of n e q) ≡ Some r → (i : ℕ) → Goes e i q) → is_in (chain_of n e q) q ≡ b
        → cond b (Some q) (ring_in (chain_of n e q)) ≡ Some r → Goes e m s
    by_bool q true f on g j = let k = in_path e n q q g in leads e (suc zero) s q (q, f, refl) (cycle e k.0 q k.1) m
    by_bool q false f on g j = leads e (suc zero) s q (q, f, refl) (on j) m

    by_next : (o : Option ℕ) → waits_for e s ≡ o → ((q : ℕ) → ring_in (chain_of n e q) ≡ Some r → (i : ℕ) → Goes e i q) → ring_in (and_on o (chain_of n e)) ≡ Some r → Goes e m s
    by_next None f on i = absurd (none_some i)
    by_next (Some q) f on i = by_bool q (is_in (chain_of n e q) q) f (on q) refl i

-- WHERE A CHAIN CLOSES
pub closed_goes : (e : End) (s : ℕ) (v : Verdict) → closed (chain e s) s ≡ Some v → (m : ℕ) → Goes e m s
unfolding closed chain
closed_goes e s v h m = by_bool (is_in (chain_of 32 e s) s) refl h
  where
    by_option : (o : Option ℕ) → ring_in (chain_of 32 e s) ≡ o → by_ring o ≡ Some v → Goes e m s
    by_option None f i = absurd (none_some i)
    by_option (Some r) f i = ring_goes e 32 s r f m

    by_bool : (b : Bool) → is_in (chain_of 32 e s) s ≡ b → cond b (cond (list_all (λ p. nat_le s p) (chain_of 32 e s)) (Some (in_ring (chain_of 32 e s) s)) None) (by_ring (ring_in (chain_of 32 e s))) ≡ Some v → Goes e m s
    by_bool true f i = let k = in_path e 32 s s f in cycle e k.0 s k.1 m
    by_bool false f i = by_option (ring_in (chain_of 32 e s)) refl i

-- for whom one waits then
pub next_goes : (e : End) (p q : ℕ) → ((m : ℕ) → Goes e m p) → waits_for e p ≡ Some q → (m : ℕ) → Goes e m q
next_goes e p q h f m = let g = h (suc m) in subst (Goes e m) (some_is (sym g.1 ∙ f)) g.2

-- each slot of a chain is led to
pub chain_path : (e : End) (n s i r : ℕ) → slice_get (chain_of n e s) i ≡ Some r → Path e (suc i) s r
chain_path e zero s i r h = absurd (none_some h)
chain_path e (suc n) s i r h = by_next (waits_for e s) i refl (λ q j. chain_path e n q j r) h
  where
    by_next : (o : Option ℕ) (i : ℕ) → waits_for e s ≡ o → ((q j : ℕ) → slice_get (chain_of n e q) j ≡ Some r → Path e (suc j) q r) → slice_get (and_on o (chain_of n e)) i ≡ Some r
        → Path e (suc i) s r
    by_next None i f on g = absurd (none_some g)
    by_next (Some q) zero f on g = (q, f, some_is g)
    by_next (Some q) (suc i) f on g = (q, f, on q i g)
