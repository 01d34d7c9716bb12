use Rattle.std.proofs.Common.{◌≡◌, ◌<◌, ◌≤◌, ◌+◌, ◌-◌, length, subst, inl, inr, arith}
use Rattle.std.proofs.lemmas.Bool.{cases_lt}
use Rattle.mx_walk.specs.declared.positions.Position.{Position}
use Rattle.mx_walk.specs.Positions.{IsBefore, next_position, position_before}
use Rattle.mx_walk.proofs.Along.{any_record, at, is_few, is_inside}
use Rattle.mx_walk.proofs.Next.{back_next, next_back_inside, next_back_over}
use Rattle.mx_walk.proofs.position_laws.positions_alternate.Goals as goal

pub returns-clause-back : goal.returns-clause-back
returns-clause-back c records p h b = back_next records p.records b p.steps (is_few records p.records any_record b p.steps h)

not_first : (q p : Position) → IsBefore q p → p.steps ≤ 0 → 1 ≤ p.records
not_first q p (inl lt) none = omega (arith, lt)
not_first q p (inr h) none = let i = h.1 in absurd (omega (arith, i, none))

pub returns-clause-forward : goal.returns-clause-forward
returns-clause-forward c records p q h lt = elim (cases_lt 0 p.steps) [
  | inl some ↦
      let b : p.records < length records = is_inside records p h some in
      let few = is_few records p.records any_record b p.steps h in
      let one : p.steps - 1 + 1 ≡ p.steps = omega (arith, some) in
      subst (λ j. next_position records (position_before records (at p.records j)) ≡ at p.records j) one (next_back_inside records p.records b (p.steps - 1) (omega (arith, few, some)))
  | inr none ↦
      let some = not_first q p lt none in
      let b : p.records - 1 < length records = let a = h.earlier in omega (arith, a, some) in
      let one : p.records - 1 + 1 ≡ p.records = omega (arith, some) in
      let zero_steps : 0 ≡ p.steps = omega (arith, none) in
      subst (λ j. next_position records (position_before records (at p.records j)) ≡ at p.records j) zero_steps
      (subst (λ k. next_position records (position_before records (at k 0)) ≡ at k 0) one (next_back_over records (p.records - 1) b))
]
