-- Comparisons, one after another.
use Rattle.std.proofs.Common.{eq-eqb, ◌==◌, ◌≡◌, ◌∙◌, ◌<◌, ◌≤◌, ◌+◌, ℕ, Bool, true, false, ◌&&◌, IsTrue, ◌↔◌, List, [], ◌∷◌, ◌++◌, length, take, refl, sym, ap, ap₂, arith, slice_index}
use Rattle.std.proofs.lemmas.Bool.{eqb-true}
use Rattle.std.proofs.lemmas.List.{take_more, take_all}
use Rattle.mx_flags.specs.Flags.{bits_of}
use Rattle.mx_regs.specs.RegisterValues.{words_of}
use Rattle.mx_exec.specs.declared.image.Image.{Image}
use Rattle.mx_exec.specs.declared.image.Outcome.{Outcome}
use Rattle.mx_vectors_compare.specs.declared.case.Case.{Case}
use Rattle.mx_vectors_compare.specs.Ends.{EndsAs, SameBits, compared_flags, wanted_flags}

-- two tests at once
pub both : {P Q : Type 0} (a b : Bool) → IsTrue a ↔ P → IsTrue b ↔ Q → IsTrue (a && b) ↔ (P × Q)
both true true p q = ((λ _. (p.0 refl, q.0 refl)), (λ _. refl))
both true false p q = ((λ e. absurd cc), (λ h. q.1 h.1))
both false b p q = ((λ e. absurd cc), (λ h. p.1 h.0))

-- the first i bytes are equal, of lists of one length
pub record SameFirst (i : ℕ) (a b : List ℕ) : Type 0 where
  pub limit : length a ≡ length b
  pub first : take i a ≡ take i b

last_same : (p q : List ℕ) (x y : ℕ) → p ++ x ∷ [] ≡ q ++ y ∷ [] → (p ≡ q) × (x ≡ y)
last_same [] [] x y e = (refl, cc)
last_same [] (b ∷ []) x y e = cc
last_same [] (b ∷ c ∷ q) x y e = cc
last_same (a ∷ []) [] x y e = cc
last_same (a ∷ c ∷ p) [] x y e = cc
last_same (a ∷ p) (b ∷ q) x y e =
    let tails : p ++ x ∷ [] ≡ q ++ y ∷ [] = cc in
    let heads : a ≡ b = cc in
    let rest = last_same p q x y tails in
    (ap₂ (λ (u : ℕ) (v : List ℕ). u ∷ v) heads rest.0, rest.1)

-- none of them yet
pub same_none : (n : ℕ) (a b : List ℕ) → n ≡ length a → IsTrue (n == length b) ↔ SameFirst 0 a b
same_none n a b e = ((λ t. record { limit = sym e ∙ eqb-true n (length b) t; first = refl }), (λ s. eq-eqb n (length b) (e ∙ s.limit)))

-- one byte more
pub same_more : (a b : List ℕ) (i : ℕ) → i < length b → SameFirst (i + 1) a b ↔ (SameFirst i a b × (slice_index a i ≡ slice_index b i))
same_more a b i low = (to, from)
  where
    to : SameFirst (i + 1) a b → SameFirst i a b × (slice_index a i ≡ slice_index b i)
    to s =
        let below : i < length a = omega (arith, s.limit) in
        let parts = last_same (take i a) (take i b) _ _ (sym (take_more a i 0 below) ∙ (s.first ∙ take_more b i 0 low)) in
        (record { limit = s.limit; first = parts.0 }, parts.1)

    from : SameFirst i a b × (slice_index a i ≡ slice_index b i) → SameFirst (i + 1) a b
    from h =
        let below : i < length a = omega (arith, h.0.limit) in
        record {
          limit = h.0.limit;
          first = take_more a i 0 below ∙ (ap₂ (λ (u : List ℕ) (v : ℕ). u ++ v ∷ []) h.0.first h.1 ∙ sym (take_more b i 0 low));
        }

-- and its test
pub tested_more : (a b : List ℕ) (i x y : ℕ) (same test : Bool) → i < length b → x ≡ slice_index a i → y ≡ slice_index b i
    → IsTrue same ↔ SameFirst i a b → IsTrue test ↔ (x ≡ y) → IsTrue (same && test) ↔ SameFirst (i + 1) a b
tested_more a b i x y same test low is_x is_y s t =
    let two = both same test s t in
    let more = same_more a b i low in
    ((λ e. let p = two.0 e in more.1 (p.0, sym is_x ∙ (p.1 ∙ is_y))), (λ f. let p = more.0 f in two.1 (p.0, is_x ∙ (p.1 ∙ sym is_y))))

-- all of them
pub same_all : (a b : List ℕ) (i : ℕ) → length b ≤ i → SameFirst i a b ↔ (a ≡ b)
same_all a b i over = (to, (λ same. record { limit = ap length same; first = ap (take i) same }))
  where
    to : SameFirst i a b → a ≡ b
    to s = sym (take_all i a (omega (arith, s.limit))) ∙ (s.first ∙ take_all i b over)

-- five comparisons are the case's end
pub ended : (c : Case) (o : Outcome) (m : Image) (outcome registers eip flags memory : Bool)
    → IsTrue outcome ↔ (o ≡ c.outcome) → IsTrue registers ↔ (m.regs ≡ words_of c.after.registers) → IsTrue eip ↔ (m.eip ≡ c.after.eip)
    → IsTrue flags ↔ SameBits (compared_flags c.mask) (bits_of m.flags) (wanted_flags c) → IsTrue memory ↔ (m.memory ≡ c.memory_after)
    → IsTrue (outcome && registers && eip && flags && memory) ↔ EndsAs c o m
ended c o m outcome registers eip flags memory d e f g h =
    let two = both outcome registers d e in
    let three = both (outcome && registers) eip two f in
    let four = both (outcome && registers && eip) flags three g in
    let all = both (outcome && registers && eip && flags) memory four h in (
      (λ t. let p = all.0 t in record { outcome = p.0.0.0.0; registers = p.0.0.0.1; eip = p.0.0.1; flags = p.0.1; memory = p.1 }),
      (λ s. all.1 ((((s.outcome, s.registers), s.eip), s.flags), s.memory)),
    )
