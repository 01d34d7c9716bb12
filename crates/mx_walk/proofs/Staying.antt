-- What a walk on shows, and that one who stays shows nothing.
use Rattle.std.proofs.Common.{◌≡◌, ◌∙◌, ◌≤◌, ℕ, ◌-◌, eqb, leb, ltb, cond, true, false, List, [], ◌++◌, length, map, refl, ap, sym, inl, inr, arith}
use Rattle.std.specs.List.{range_with_len}
use Rattle.std.proofs.lemmas.Bool.{eq-eqb, le-leb, lt-ltb, ne_eqb}
use Rattle.std.proofs.lemmas.List.{append-nil}
use Rattle.mx_walk.specs.declared.positions.Position.{Position}
use Rattle.mx_walk.specs.declared.progress.Part.{Part}
use Rattle.mx_walk.specs.Parts.{part_after, parts_between, walk_between}
use Rattle.mx_walk.specs.Walks.{Walk, checkpoint_before, shown_to}
use Rattle.mx_walk.specs.Positions.{IsUpTo, is_up_to}

pub is_up : (p q : Position) → IsUpTo p q → is_up_to p q ≡ true
is_up p q (inl lt) =
    let other : eqb p.records q.records ≡ false = ne_eqb p.records q.records (λ e. omega (arith, e, lt)) in
    ap (λ b. cond b (leb p.steps q.steps) (ltb p.records q.records)) other ∙ lt-ltb p.records q.records lt
is_up p q (inr h) =
    ap (λ b. cond b (leb p.steps q.steps) (ltb p.records q.records)) (eq-eqb p.records q.records h.0) ∙ le-leb p.steps q.steps h.1

pub on_shown : (k : Walk) (p : Position) → IsUpTo k.here p → shown_to k p ≡ walk_between k.records k.here p
on_shown k p up = ap (λ b. walk_between k.records (let q : Position = cond b k.here (checkpoint_before k.checkpoints p) in q) p) (is_up k.here p up)

none_between : (all n : ℕ) → parts_between all n n ≡ []
none_between all n = let none : n - n ≡ 0 = omega arith in ap (λ i. map (part_after all) (range_with_len n i)) none

-- within a record none is shown
pub none_shown : (k : Walk) (p : Position) → IsUpTo k.here p → k.here.records ≡ p.records → shown_to k p ≡ []
none_shown k p up same = on_shown k p up ∙ ap (λ i. parts_between (length k.records) i p.records) same ∙ none_between (length k.records) p.records

pub here_shown : (k : Walk) → shown_to k k.here ≡ []
here_shown k = let le : k.here.steps ≤ k.here.steps = omega arith in none_shown k k.here (inr (refl, le)) refl

pub stays_shown : (k : Walk) (before : List Part) → before ≡ before ++ shown_to k k.here
stays_shown k before = sym (append-nil before) ∙ ap (λ (ps : List Part). before ++ ps) (sym (here_shown k))
