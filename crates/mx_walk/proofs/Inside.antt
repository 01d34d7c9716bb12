-- A search within the steps of one record.
use Rattle.std.proofs.Common.{◌≡◌, ◌∙◌, ◌<◌, ◌≤◌, ℕ, suc, ◌+◌, ◌-◌, Bool, true, false, cond, nat_lt, List, [], ◌∷◌, ◌++◌, drop, length, get_or, Option, Some, None, refl, ap, sym, subst, inl, inr, arith}
use Rattle.std.specs.Option.{MatchOption}
use Rattle.mx_machine.specs.declared.events.Event.{Event}
use Rattle.mx_machine.specs.declared.events.Event.TheVariants as event
use Rattle.mx_machine.specs.declared.history.Record.{Record}
use Rattle.mx_machine.specs.History.{world_after_events}
use Rattle.mx_machine.specs.World.{World}
use Rattle.mx_machine.specs.Machine.{MachineState, world_of}
use Rattle.mx_walk.specs.declared.positions.Position.{Position}
use Rattle.mx_walk.specs.Positions.{HasMade, IsBefore, IsAt, IsBlocked, IsPosition, IsRefused, IsStuck, IsUpTo, next_event, events_before, next_by, next_position, steps_in, steps_of, world_at}
use Rattle.mx_walk.specs.Seeking.{HasCome, NoneMarked, is_marked}
use Rattle.mx_walk.proofs.Along.{any_record, at, halted_in, more_above, steps_on}
use Rattle.mx_walk.proofs.Made.{replicate_both}
use Rattle.mx_walk.proofs.Next.{left_steps, next_up_to, not_itself, up_to_of}
use Rattle.mx_walk.proofs.Passing.{come_by}

module _ (f : World → ℕ × Event → World → Bool) (boot : World) (records : List Record) (k : ℕ) (b : k < length records) (j : ℕ) (m n : MachineState) (there : IsAt boot records (at k j) m) (same : n.kernel.boot ≡ m.kernel.boot) where
  abbrev x : Record
  x = get_or records k any_record

  abbrev most : ℕ
  most = steps_in x.event

  steps_last : (i : ℕ) → steps_of x.actor (suc i) ≡ steps_of x.actor i ++ (x.actor, event.Step) ∷ []
  steps_last i = let e : suc i ≡ i + 1 = omega arith in ap (λ c. steps_of x.actor c) e ∙ replicate_both i 1 (x.actor, event.Step)

  -- some are made
  module _ (i : ℕ) (some : 0 < i) (few : j + i ≤ most) (made : HasMade (world_of m) (world_of n) (steps_of x.actor i)) where
    pub come_to : IsAt boot records (at k (j + i)) n
    come_to = steps_on records k any_record b boot m n j i there same made few

    pub come : (met : Bool) → (met ≡ false → NoneMarked f (world_of m) (steps_of x.actor i))
        → (met ≡ true → (c : ℕ) × (i ≡ suc c) × NoneMarked f (world_of m) (steps_of x.actor c) × (is_marked f (world_after_events (world_of m) (steps_of x.actor c)) (x.actor, event.Step) ≡ true))
        → HasCome f boot records (at k j) (at k (j + i)) met
    come met passed found = record {
      later = let lt : j < j + i = omega (arith, some) in inr (refl, lt);
      fewer = left_steps records k b j i some few;
      passed = λ no. (
        steps_of x.actor i,
        sym (more_above records k any_record b j i),
        subst (λ (w : World). NoneMarked f w (steps_of x.actor i)) there.made.world (passed no),
      );
      found = λ yes.
          let s = found yes in (
            steps_of x.actor s.0,
            (x.actor, event.Step),
            sym (more_above records k any_record b j i) ∙ ap (λ (es : List (ℕ × Event)). events_before records (at k j) ++ es) (ap (λ c. steps_of x.actor c) s.1 ∙ steps_last s.0),
            subst (λ (w : World). NoneMarked f w (steps_of x.actor s.0)) there.made.world s.2,
            subst (λ (w : World). is_marked f (world_after_events w (steps_of x.actor s.0)) (x.actor, event.Step) ≡ true) there.made.world s.3,
          );
    }

  -- none can be made
  module _ (i to : ℕ) (none : i ≡ 0) (lt : j < to) (few : to ≤ most) (made : HasMade (world_of m) (world_of n) (steps_of x.actor i)) where
    come_none : IsAt boot records (at k (j + i)) n
    come_none = steps_on records k any_record b boot m n j i there same made (omega (arith, none, lt, few))

    stays : j + i ≡ j
    stays = omega (arith, none)

    pub still_there : IsAt boot records (at k j) n
    still_there = subst (λ c. IsAt boot records (at k c) n) stays come_none

    pub stuck : (met : Bool) → (met ≡ true → (c : ℕ) × (i ≡ suc c) × NoneMarked f (world_of m) (steps_of x.actor c) × (is_marked f (world_after_events (world_of m) (steps_of x.actor c)) (x.actor, event.Step) ≡ true))
        → (met ≡ false → i < to - j → IsRefused (world_of n) (x.actor, event.Step)) → IsStuck boot records (at k j)
    stuck true found halted = let s = found refl in absurd (omega (arith, none, s.1))
    stuck false found halted =
        elim (halted_in records k any_record b boot n j i to come_none (omega (arith, lt)) few (omega (arith, none)) (halted refl)) [
          | inl e ↦ let s : j + i ≡ to = ap (λ (p : Position). p.steps) e in absurd (omega (arith, s, none, lt))
          | inr h ↦ inr (subst (λ c. IsBlocked boot records (at k c)) stays h.1)
        ]

-- the next position is of the same record, or of the next one
by_choice : (p : Position) (b : Bool) → (cond b (at p.records (p.steps + 1)) (at (p.records + 1) 0)).records ≤ p.records + 1
by_choice p true = omega arith
by_choice p false = omega arith

next_by_records : (p : Position) (xs : List Record) → (next_by p xs).records ≤ p.records + 1
next_by_records p [] = omega arith
next_by_records p (x ∷ xs) = by_choice p (nat_lt p.steps (steps_in x.event))

next_records : (records : List Record) (p : Position) → (next_position records p).records ≤ p.records + 1
unfolding next_position
next_records records p = next_by_records p (drop p.records records)

-- one event, which may be one of its steps
pub by_event : (f : World → ℕ × Event → World → Bool) (boot : World) (records : List Record) (p to : Position) (n : MachineState) (o : Option (Position × Bool)) → IsPosition records p → IsPosition records to → IsBefore p to
    → MatchOption o (IsStuck boot records p × IsAt boot records p n)
    (λ gone. (x : ℕ × Event) × (next_event records p ≡ Some x) × (gone.0 ≡ next_position records p) × IsAt boot records gone.0 n × (gone.1 ≡ is_marked f (world_at boot records p) x))
    → MatchOption o (IsStuck boot records p × IsAt boot records p n) (λ gone. HasCome f boot records p gone.0 gone.1 × IsAt boot records gone.0 n × IsUpTo gone.0 to × (gone.0.records ≤ p.records + 1))
by_event f boot records p to n None h g lt s = s
by_event f boot records p to n (Some gone) h g lt s = (
  subst (λ (q : Position). HasCome f boot records p q gone.1) (sym s.2) (come_by f boot records p s.0 h s.1 gone.1 s.4),
  s.3,
  subst (λ (q : Position). IsUpTo q to) (sym s.2) (next_up_to records p to s.0 h g s.1 (up_to_of p to lt) (not_itself p to lt)),
  subst (λ (q : Position). q.records ≤ p.records + 1) (sym s.2) (next_records records p),
)
