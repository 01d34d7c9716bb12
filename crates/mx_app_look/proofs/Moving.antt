-- Records that are read, and the positions that they begin and end.
use Rattle.std.proofs.Common.{◌≡◌, ◌≤◌, ◌<◌, ℕ, zero, suc, ◌+◌, List, [], ◌∷◌, length, drop, get_or, Some, slice_get, refl, ap, inl, inr, arith}
use Rattle.mx_machine.specs.declared.history.Record.{Record}
use Rattle.mx_walk.specs.declared.positions.Position.{Position}
use Rattle.mx_walk.specs.Positions.{IsPosition, IsUpTo, first_steps, steps_in}

pub records_up_to : (p q : Position) → IsUpTo p q → p.records ≤ q.records
records_up_to p q (inl lt) = omega (arith, lt)
records_up_to p q (inr h) = let e = h.0 in omega (arith, e)

-- ---- a record that is read

-- the one at an index
pub read_is : (records : List Record) (n : ℕ) (x : Record) → n < length records → slice_get records n ≡ Some (get_or records n x)
read_is [] n x lt = absurd (omega (arith, lt))
read_is (y ∷ ys) zero x lt = refl
read_is (y ∷ ys) (suc n) x lt = read_is ys n x (omega (arith, lt))

-- ---- a record before a position

inside_by : (records : List Record) (n : ℕ) (x : Record) → slice_get records n ≡ Some x → n < length records
inside_by [] n x e = absurd cc
inside_by (y ∷ ys) zero x e = omega arith
inside_by (y ∷ ys) (suc n) x e = let lt = inside_by ys n x e in omega (arith, lt)

pub steps_by : (records : List Record) (n : ℕ) (x : Record) → slice_get records n ≡ Some x → first_steps (drop n records) ≡ steps_in x.event
steps_by [] n x e = absurd cc
steps_by (y ∷ ys) zero x e = let same : y ≡ x = cc in ap (λ (z : Record). steps_in z.event) same
steps_by (y ∷ ys) (suc n) x e = steps_by ys n x e

-- its steps are made, but not its own event
pub begun_position : (records : List Record) (n : ℕ) (x : Record) → slice_get records n ≡ Some x → IsPosition records (record { records = n; steps = steps_in x.event })
begun_position records n x e = record {
  earlier = let lt = inside_by records n x e in omega (arith, lt);
  inside = let same = steps_by records n x e in omega (arith, same);
}

pub begun_is_early : (n j : ℕ) (here last : Position) → n < here.records → IsUpTo here last → IsUpTo (record { records = n; steps = j }) last
begun_is_early n j here last lt early =
    let le = records_up_to here last early in
    let less : n < last.records = omega (arith, lt, le) in inl less

-- it is made
pub made_position : (records : List Record) (n : ℕ) (x : Record) → slice_get records n ≡ Some x → IsPosition records (record { records = n + 1; steps = 0 })
made_position records n x e = record { earlier = let lt = inside_by records n x e in omega (arith, lt); inside = omega arith }
