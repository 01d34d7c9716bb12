-- Which lists are schedules, by those with a departure less.
use Rattle.std.proofs.Common.{◌≡◌, ◌∙◌, ◌≤◌, ◌<◌, ◌+◌, ◌-◌, ◌==◌, ◌&&◌, ◌||◌, ◌++◌, ℕ, Bool, true, false, List, [], ◌∷◌, drop, nat_lt, Some, inl, inr, refl, ap, sym, arith, true≢false}
use Rattle.std.specs.Prelude.{slice_get}
use Rattle.std.proofs.lemmas.Bool.{eq-eqb}
use Rattle.mx_explore.specs.Offers.{is_outside}
use Rattle.mx_explore.specs.declared.passing.Departure.{Departure}
use Rattle.mx_explore.specs.declared.passing.Met.{Met}
use Rattle.mx_explore.specs.Passing.{IsSchedule, Setting, Standing, end_of, is_at}
use Rattle.mx_explore.specs.Tree.{can_wait}
use Rattle.mx_explore.proofs.FollowLemmas.{departed_by, longer_run}
use Rattle.mx_explore.proofs.WaitLemmas.{begun_of, longer_wait, longer_waiting, waits_by}

pub no_end : {X : Type 0} (xs : List X) (x : X) → xs ++ x ∷ [] ≡ [] → ⊥
no_end [] x e = cc
no_end (y ∷ ys) x e = cc

-- the runs with and without one departure more meet the offer where it begins
abbrev pub MeetsAt : Setting → List Departure → Departure → Type 0
MeetsAt t ds d =
    (m : Met) × (slice_get (end_of t ds).met d.at ≡ Some m) × (slice_get (end_of t (departed_by ds d)).met d.at ≡ Some m)
    × (is_at d.at m.offer d ≡ true)

-- A LIST IS A SCHEDULE only if it is one without its last departure, which its run meets after its own last one
pub shorter : (t : Setting) (ds : List Departure) (d : Departure) → IsSchedule t (departed_by ds d)
    → IsSchedule t ds × ((end_of t ds).after ≤ d.at) × MeetsAt t ds d
shorter t ds d h = elim (longer_run t ds d) [
  | inl on ↦ absurd (no_end (end_of t ds).ahead d (sym (ap (λ (s : Standing). s.ahead) on.0) ∙ h.begun))
  | inr g ↦
      let s = g.2 in
      let l = g.3 in
      (record { begun = s.ahead; ended = s.waits; kept = s.kept ∙ l.kept h.kept }, s.early, (g.1, s.there, l.there, s.is))
]

-- for one turn it may depart at any offer that its run meets after its last departure
pub one_more : (t : Setting) (ds : List Departure) (at : ℕ) (m : Met) → IsSchedule t ds → slice_get (end_of t ds).met at ≡ Some m → (end_of t ds).after ≤ at
    → IsSchedule t (departed_by ds (record { at = at; turns = 1 }))
one_more t ds at m h there early =
    let d : Departure = record { at = at; turns = 1 } in
    let is : is_at at m.offer d ≡ true = ap (λ b. b && ((1 == 1) || (nat_lt 1 1 && is_outside m.offer))) (eq-eqb at at refl) in
    elim (longer_run t ds d) [
      | inl on ↦ absurd (on.2 m there is early h.begun h.ended)
      | inr g ↦
          let s = g.2 in
          let l = g.3 in
          let one = l.one refl in
          record { begun = l.ahead; ended = one.0; kept = one.1 ∙ sym s.kept ∙ h.kept }
    ]

pub both_true : (a b : Bool) → (a && b) ≡ true → (a ≡ true) × (b ≡ true)
both_true true b h = (refl, h)
both_true false b h = absurd (true≢false (sym h))

-- for a turn more than some it may depart only if it may for these, and can wait then
pub shorter_wait : (t : Setting) (ds : List Departure) (d : Departure) → 0 < d.turns → IsSchedule t (departed_by ds (longer_wait d))
    → IsSchedule t (departed_by ds d) × (can_wait (end_of t (departed_by ds d)) ≡ true)
shorter_wait t ds d lt h = elim (longer_waiting t ds d lt) [
  | inl on ↦ elim on [
    | inl before ↦ absurd (no_end before.0.ahead (longer_wait d) (sym (ap (λ (s : Standing). s.ahead) before.3) ∙ h.begun))
    | inr waits ↦ (let more : (end_of t (departed_by ds d)).waits + 1 ≡ 0 = sym (ap (λ (s : Standing). s.waits) waits.1) ∙ h.ended in absurd (omega (arith, more)))
  ]
  | inr apart ↦ elim apart [
    | inl g ↦
        let o = g.1 in
        let kept = both_true _ _ (sym o.kept ∙ h.kept) in
        let s = end_of t (departed_by ds d) in (
          record { begun = o.ahead; ended = o.waits; kept = kept.0 },
          waits_by (drop s.after s.met) ∙ ap begun_of o.first ∙ kept.1,
        )
    | inr never ↦ absurd (some_ahead (longer_wait d) (sym never.stuck.ahead ∙ h.begun))
  ]
]
  where
    some_ahead : (d : Departure) → (let l : List Departure = d ∷ [] in l ≡ []) → ⊥
    some_ahead d e = cc

-- and then it may, if it is of the outside
pub wait_more : (t : Setting) (ds : List Departure) (d : Departure) (m : Met) → 0 < d.turns → IsSchedule t (departed_by ds d)
    → slice_get (end_of t (departed_by ds d)).met d.at ≡ Some m → is_outside m.offer ≡ true → can_wait (end_of t (departed_by ds d)) ≡ true
    → IsSchedule t (departed_by ds (longer_wait d))
wait_more t ds d m lt h there outside can = elim (longer_waiting t ds d lt) [
  | inl on ↦ elim on [
    | inl before ↦ absurd (no_end before.0.ahead d (sym (ap (λ (s : Standing). s.ahead) before.2) ∙ h.begun))
    | inr waits ↦ absurd (true≢false (sym can ∙ waits_by (drop s.after s.met) ∙ ap begun_of waits.0.none))
  ]
  | inr apart ↦ elim apart [
    | inl g ↦
        let o = g.1 in
        let begun : g.0.is_begun ≡ true = sym (ap begun_of o.first) ∙ sym (waits_by (drop s.after s.met)) ∙ can in
        record { begun = o.then_ahead; ended = o.then_waits; kept = o.kept ∙ ap (λ b. b && g.0.is_begun) h.kept ∙ begun }
    | inr never ↦
        let same : Some never.there.0 ≡ Some m = sym never.there.1 ∙ there in
        let one : never.there.0 ≡ m = cc in
        absurd (true≢false (sym outside ∙ ap (λ (n : Met). is_outside n.offer) (sym one) ∙ never.there.2))
  ]
]
  where
    s : Standing
    s = end_of t (departed_by ds d)
