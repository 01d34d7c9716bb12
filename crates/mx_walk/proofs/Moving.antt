-- Positions that requests lead to.
use Rattle.std.proofs.Common.{◌≡◌, ◌∙◌, ◌≤◌, ◌<◌, ℕ, zero, suc, ◌+◌, ◌-◌, eqb, leb, ltb, ◌&&◌, cond, Bool, true, false, List, length, get_or, Some, None, refl, ap, sym, subst, inl, inr, arith}
use Rattle.std.proofs.lemmas.Bool.{cases_lt, le-ltb, ne_eqb}
use Rattle.mx_machine.specs.declared.events.Event.{Event}
use Rattle.mx_machine.specs.declared.history.Record.{Record}
use Rattle.mx_walk.specs.declared.positions.Position.{Position}
use Rattle.mx_walk.specs.Positions.{IsBefore, IsPosition, IsUpTo, next_event, first, is_up_to, next_position, position_before, steps_in}
use Rattle.mx_walk.specs.Walks.{Walk}
use Rattle.mx_walk.proofs.Next.{above_trans, back_inside, back_over, has_event, next_up_to, not_itself, up_to_of}
use Rattle.mx_walk.proofs.Along.{any_record, at, is_few, is_inside, is_position}
use Rattle.mx_walk.specs.Moves.{steps_back, steps_on, up_to_last}

pub up_to_itself : (p : Position) → IsUpTo p p
up_to_itself p = let le : p.steps ≤ p.steps = omega arith in inr (refl, le)

-- the start of a record that isn't after a position is one
pub start_is_position : (records : List Record) (p q : Position) → p.steps ≡ 0 → p.records ≤ q.records → IsPosition records q → IsPosition records p
start_is_position records p q e le h = record {
  earlier = let a = h.earlier in omega (arith, le, a);
  inside = omega (arith, e);
}

pub start_up_to : (p here last : Position) → p.steps ≡ 0 → p.records ≤ here.records → IsUpTo here last → IsUpTo p last
start_up_to p here last e le (inl lt) = let below : p.records < last.records = omega (arith, le, lt) in inl below
start_up_to p here last e le (inr h) = elim (cases_lt p.records last.records) [
  | inl lt ↦ inl lt
  | inr ge ↦
      let s = h.0 in
      let same : p.records ≡ last.records = omega (arith, ge, le, s) in
      let few : p.steps ≤ last.steps = omega (arith, e) in inr (same, few)
]

-- a position below all that a walker comes to
pub below_last : (k : Walk) (p : Position) → k.last.records < p.records → up_to_last k p ≡ k.last
below_last k p lt =
    let other : eqb p.records k.last.records ≡ false = ne_eqb p.records k.last.records (λ e. omega (arith, e, lt)) in
    let less : ltb p.records k.last.records ≡ false = le-ltb p.records k.last.records (omega (arith, lt)) in
    ap (λ b. cond (cond b (leb p.steps k.last.steps) (ltb p.records k.last.records)) p k.last) other
    ∙ ap (λ b. cond b p k.last) less

-- ---- one event on

pub on_by_one : (k : Walk) (n : ℕ) (p : Position) → is_up_to k.last p ≡ false → steps_on (suc n) k p ≡ steps_on n k (next_position k.records p)
on_by_one k n p e = ap (λ b. let r : Position = cond b p (steps_on n k (next_position k.records p)) in r) e

pub on_stays : (k : Walk) (n : ℕ) (p : Position) → is_up_to k.last p ≡ true → steps_on n k p ≡ p
on_stays k zero p e = refl
on_stays k (suc n) p e = ap (λ b. let r : Position = cond b p (steps_on n k (next_position k.records p)) in r) e

pub next_is_early : (records : List Record) (p last : Position) (x : ℕ × Event) → IsPosition records p → IsPosition records last → IsBefore p last → next_event records p ≡ Some x
    → IsUpTo (next_position records p) last
next_is_early records p last x h l lt e = next_up_to records p last x h l e (up_to_of p last lt) (not_itself p last lt)

pub no_end : (records : List Record) (p last : Position) → IsPosition records last → IsBefore p last → next_event records p ≡ None → ⊥
no_end records p last l lt e = let x = has_event records p last l lt in let no : None ≡ Some x.0 = sym e ∙ x.1 in cc

-- ---- one event back

abbrev is_first : Position → Bool
is_first p = eqb p.records 0 && eqb p.steps 0

no_and : (a b : Bool) → b ≡ false → a && b ≡ false
no_and true b e = e
no_and false b e = refl

not_first : (q p : Position) → IsBefore q p → is_first p ≡ false
not_first q p (inl lt) = ap (λ b. b && eqb p.steps 0) (ne_eqb p.records 0 (λ e. omega (arith, e, lt)))
not_first q p (inr h) = no_and (eqb p.records 0) (eqb p.steps 0) (ne_eqb p.steps 0 (λ e. let lt = h.1 in omega (arith, e, lt)))

pub back_by_one : (k : Walk) (n : ℕ) (q p : Position) → IsBefore q p → steps_back (suc n) k p ≡ steps_back n k (position_before k.records p)
back_by_one k n q p lt = ap (λ b. let r : Position = cond b p (steps_back n k (position_before k.records p)) in r) (not_first q p lt)

pub back_stays : (k : Walk) (n : ℕ) (p : Position) → p ≡ first → steps_back n k p ≡ p
back_stays k zero p e = refl
back_stays k (suc n) p e =
    let is : is_first p ≡ true = ap is_first e in
    ap (λ b. let r : Position = cond b p (steps_back n k (position_before k.records p)) in r) is

pub before_is_early : (q p last : Position) → IsBefore q p → IsUpTo p last → IsUpTo q last
before_is_early q p last lt le = up_to_of q last (above_trans q p last lt le)

before_first : (q p : Position) → p.steps ≤ 0 → p.records ≤ 0 → IsBefore q p → ⊥
before_first q p none no_more (inl lt) = omega (arith, lt, no_more)
before_first q p none no_more (inr h) = let lt = h.1 in omega (arith, lt, none)

-- the position before one that isn't the first is a position
pub before_is_position : (records : List Record) (q p : Position) → IsPosition records p → IsBefore q p → IsPosition records (position_before records p)
before_is_position records q p h lt = elim (cases_lt 0 p.steps) [
  | inl some ↦
      let k = p.records in
      let b = is_inside records p h some in
      let few = is_few records k any_record b p.steps h in
      let one : p.steps - 1 + 1 ≡ p.steps = omega (arith, some) in
      let same : at k (p.steps - 1 + 1) ≡ p = ap (λ j. at k j) one in
      subst (λ (r : Position). IsPosition records r) (sym (back_inside records k b (p.steps - 1)) ∙ ap (λ (r : Position). position_before records r) same)
      (is_position records k any_record b (p.steps - 1) (omega (arith, few)))
  | inr none ↦ elim (cases_lt 0 p.records) [
    | inl more ↦
        let k = p.records - 1 in
        let a = h.earlier in
        let b : k < length records = omega (arith, a, more) in
        let one : k + 1 ≡ p.records = omega (arith, more) in
        let zero_steps : 0 ≡ p.steps = omega (arith, none) in
        let same : at (k + 1) 0 ≡ p = ap (λ i. at i 0) one ∙ ap (λ j. at p.records j) zero_steps in
        subst (λ (r : Position). IsPosition records r) (sym (back_over records k b) ∙ ap (λ (r : Position). position_before records r) same)
        (is_position records k any_record b (steps_in (get_or records k any_record).event) (omega arith))
    | inr no_more ↦ absurd (before_first q p none no_more lt)
  ]
]

-- ---- how many are left

pub one_less : (n i : ℕ) → i < n → n - i ≡ suc (n - (i + 1))
one_less n i lt = omega (arith, lt)

pub none_left : (n i : ℕ) → n ≤ i → n - i ≡ 0
none_left n i ge = omega (arith, ge)
