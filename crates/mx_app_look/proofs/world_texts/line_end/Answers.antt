use Rattle.std.proofs.Common.{◌≡◌, ◌∙◌, ◌-◌, ℕ, zero, suc, eqb, cond, true, false, List, [], ◌∷◌, length, Some, slice_get, ap, sym, arith}
use Rattle.std.proofs.lemmas.Bool.{ne_eqb}
use Rattle.mx_app_look.specs.Answers.{line_end}
use Rattle.mx_app_look.proofs.world_texts.line_end.Goals as goal

last_is : (xs : List ℕ) (m b : ℕ) → length xs ≡ suc m → slice_get xs m ≡ Some b → line_end xs ≡ cond (eqb b 10) [] (10 ∷ [])
last_is [] m b e h = absurd cc
last_is (x ∷ []) zero b e h = let same : x ≡ b = cc in ap (λ c. cond (eqb c 10) [] (10 ∷ [])) same
last_is (x ∷ []) (suc m) b e h = absurd cc
last_is (x ∷ y ∷ ys) zero b e h = absurd (omega (arith, e))
last_is (x ∷ y ∷ ys) (suc m) b e h = last_is (y ∷ ys) m b (omega (arith, e)) h

counted : (xs : List ℕ) (b : ℕ) → slice_get xs (length xs - 1) ≡ Some b → length xs ≡ suc (length xs - 1)
counted [] b h = absurd cc
counted (x ∷ xs) b h = omega arith

by_last : (xs : List ℕ) (b : ℕ) → Some b ≡ slice_get xs (length xs - 1) → line_end xs ≡ cond (eqb b 10) [] (10 ∷ [])
by_last xs b h = last_is xs (length xs - 1) b (counted xs b (sym h)) (sym h)

pub returns-then-byte-eq10 : goal.returns-then-byte-eq10
returns-then-byte-eq10 c =
    let same : eqb c.in-Some.byte.now 10 ≡ true = ap (λ b. eqb b 10) c.if-byte-eq10.true in
    ap (λ b. cond b [] (10 ∷ [])) (sym same) ∙ sym (by_last c.args.text.now c.in-Some.byte.now c.in-Some.ensures.value)

pub returns-else-byte-eq10 : goal.returns-else-byte-eq10
returns-else-byte-eq10 c =
    let other : eqb c.in-Some.byte.now 10 ≡ false = ne_eqb c.in-Some.byte.now 10 c.if-byte-eq10.false in
    ap (λ b. cond b [] (10 ∷ [])) (sym other) ∙ sym (by_last c.args.text.now c.in-Some.byte.now c.in-Some.ensures.value)
