-- Two lists of records that a comparison finds equal.
use Rattle.std.proofs.Common.{◌≡◌, ◌∙◌, ◌==◌, ℕ, Bool, true, false, List, [], ◌∷◌, refl, ap, sym, true≢false}
use Rattle.std.specs.Prelude.{◌&&◌, not}
use Rattle.std.specs.Cmp.Lexicographic.{pointwise}
use Rattle.std.proofs.lemmas.Bool.Decides.{Decides-eqb}
use Rattle.mx_machine.specs.declared.history.Record.{Record}
use Rattle.mx_machine.specs.declared.history.Recorded.{Recorded}
use Rattle.mx_machine.specs.declared.history.Recorded.TheVariants as recorded
use Rattle.mx_machine.specs.contracts.history.RecordPartialEq.TheImpl.{eq-value}

first : (b d : Bool) → (b && d) ≡ true → b ≡ true
first true d h = refl
first false d h = h

second : (b d : Bool) → (b && d) ≡ true → d ≡ true
second true d h = h
second false d h = absurd (true≢false (sym h))

-- the actors and the kinds are the same, and so are the numbers
abbrev Same : ℕ → ℕ → Recorded → Recorded → Type 0
Same p q x y = eq-value.it (record { actor = p; event = x }) (record { actor = q; event = y }) ≡ true → (p ≡ q) × (x ≡ y)

never : (p q : ℕ) (x y : Recorded) → ((p == q) && false) ≡ true → (p ≡ q) × (x ≡ y)
never p q x y h = absurd (true≢false (sym (second (p == q) false h)))

actors : (p q : ℕ) (d : Bool) → ((p == q) && d) ≡ true → p ≡ q
actors p q d h = (Decides-eqb p q).0 (first (p == q) d h)

numbers : (p q n m : ℕ) → ((p == q) && (n == m)) ≡ true → n ≡ m
numbers p q n m h = (Decides-eqb n m).0 (second (p == q) (n == m) h)

parts : (p q : ℕ) (x y : Recorded) → Same p q x y
parts p q recorded.Take recorded.Take h = (actors p q true h, refl)
parts p q recorded.Take (recorded.Back m) h = never p q _ _ h
parts p q recorded.Take (recorded.Line m) h = never p q _ _ h
parts p q recorded.Take recorded.Tick h = never p q _ _ h
parts p q recorded.Take (recorded.Kill m) h = never p q _ _ h
parts p q recorded.Take (recorded.Respawn m) h = never p q _ _ h
parts p q (recorded.Back n) recorded.Take h = never p q _ _ h
parts p q (recorded.Back n) (recorded.Back m) h = (actors p q (n == m) h, ap (λ k. recorded.Back k) (numbers p q n m h))
parts p q (recorded.Back n) (recorded.Line m) h = never p q _ _ h
parts p q (recorded.Back n) recorded.Tick h = never p q _ _ h
parts p q (recorded.Back n) (recorded.Kill m) h = never p q _ _ h
parts p q (recorded.Back n) (recorded.Respawn m) h = never p q _ _ h
parts p q (recorded.Line n) recorded.Take h = never p q _ _ h
parts p q (recorded.Line n) (recorded.Back m) h = never p q _ _ h
parts p q (recorded.Line n) (recorded.Line m) h = (actors p q (n == m) h, ap (λ k. recorded.Line k) (numbers p q n m h))
parts p q (recorded.Line n) recorded.Tick h = never p q _ _ h
parts p q (recorded.Line n) (recorded.Kill m) h = never p q _ _ h
parts p q (recorded.Line n) (recorded.Respawn m) h = never p q _ _ h
parts p q recorded.Tick recorded.Take h = never p q _ _ h
parts p q recorded.Tick (recorded.Back m) h = never p q _ _ h
parts p q recorded.Tick (recorded.Line m) h = never p q _ _ h
parts p q recorded.Tick recorded.Tick h = (actors p q true h, refl)
parts p q recorded.Tick (recorded.Kill m) h = never p q _ _ h
parts p q recorded.Tick (recorded.Respawn m) h = never p q _ _ h
parts p q (recorded.Kill n) recorded.Take h = never p q _ _ h
parts p q (recorded.Kill n) (recorded.Back m) h = never p q _ _ h
parts p q (recorded.Kill n) (recorded.Line m) h = never p q _ _ h
parts p q (recorded.Kill n) recorded.Tick h = never p q _ _ h
parts p q (recorded.Kill n) (recorded.Kill m) h = (actors p q (n == m) h, ap (λ k. recorded.Kill k) (numbers p q n m h))
parts p q (recorded.Kill n) (recorded.Respawn m) h = never p q _ _ h
parts p q (recorded.Respawn n) recorded.Take h = never p q _ _ h
parts p q (recorded.Respawn n) (recorded.Back m) h = never p q _ _ h
parts p q (recorded.Respawn n) (recorded.Line m) h = never p q _ _ h
parts p q (recorded.Respawn n) recorded.Tick h = never p q _ _ h
parts p q (recorded.Respawn n) (recorded.Kill m) h = never p q _ _ h
parts p q (recorded.Respawn n) (recorded.Respawn m) h = (actors p q (n == m) h, ap (λ k. recorded.Respawn k) (numbers p q n m h))

record_same : (a b : Record) → eq-value.it a b ≡ true → a ≡ b
record_same a b h =
    let e = parts a.actor b.actor a.event b.event h in
    ap (λ n. let r : Record = record { actor = n; event = a.event } in r) e.0 ∙ ap (λ x. let r : Record = record { actor = b.actor; event = x } in r) e.1

lists_same : (xs ys : List Record) → pointwise eq-value.it xs ys ≡ true → xs ≡ ys
lists_same [] [] h = refl
lists_same [] (y ∷ ys) h = absurd (true≢false (sym h))
lists_same (x ∷ xs) [] h = absurd (true≢false (sym h))
lists_same (x ∷ xs) (y ∷ ys) h =
    let p = record_same x y (first _ _ h) in
    let s = lists_same xs ys (second _ _ h) in
    ap (λ z. z ∷ xs) p ∙ ap (λ zs. y ∷ zs) s

not_false : (b : Bool) → false ≡ not b → b ≡ true
not_false true h = refl
not_false false h = h

-- what a comparison says of two lists that don't differ
pub equal_records : (xs ys : List Record) → false ≡ not (pointwise eq-value.it xs ys) → xs ≡ ys
equal_records xs ys h = lists_same xs ys (not_false _ h)
