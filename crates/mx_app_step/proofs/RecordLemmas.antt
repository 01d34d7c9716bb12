-- A history's records again, from what a machine makes.
use Rattle.std.proofs.Common.{◌≡◌, ◌∙◌, ◌<◌, ◌≤◌, ℕ, zero, suc, ◌+◌, ◌-◌, List, [], ◌∷◌, ◌++◌, length, take, drop, get_or, All, Some, inl, inr, refl, ap, sym, subst, arith}
use Rattle.std.proofs.lemmas.Bool.{cases_lt}
use Rattle.std.proofs.lemmas.List.{take_more}
use Rattle.mx_machine.specs.declared.events.Event.{Event}
use Rattle.mx_machine.specs.declared.events.Event.TheVariants.{Step}
use Rattle.mx_machine.specs.declared.events.Refusal.{Refusal}
use Rattle.mx_machine.specs.declared.history.Record.{Record}
use Rattle.mx_machine.specs.History.{AreAccepted, BootAndHistory, world_after_events, events_of, events_of_history}
use Rattle.mx_machine.specs.Move.{world_after_event, event_refusal}
use Rattle.mx_machine.specs.World.{World, actors}
use Rattle.mx_machine.proofs.ActorLemmas.{actors_after_events}
use Rattle.mx_walk.specs.Kept.{kept_of}
use Rattle.mx_walk.specs.Positions.{HasMade, IsRefusedFor, event_in, own_event, rest_of, steps_in, steps_of}
use Rattle.mx_walk.proofs.Along.{unfolded_more}
use Rattle.mx_walk.proofs.EventsIn.{all_of, own_in, parts_of, step_in}
use Rattle.mx_walk.proofs.Keeping.{kept_both}
use Rattle.mx_walk.proofs.Made.{accepted_both, made_as, made_as_many}
pub use Rattle.mx_walk.proofs.Made.{after_both}
use Rattle.mx_app_step.specs.Records.{IsFirstRefusal, IsRefusedAt}

-- ---- actors

-- the actor of a record is one of them at any record
pub is_actor_still : (w v : World) (xs : List (ℕ × Event)) (records : List Record) (i : ℕ) (d : Record) → v ≡ world_after_events w xs → All (λ (x : Record). x.actor < actors w) records → i < length records
    → (get_or records i d).actor < actors v
is_actor_still w v xs records i d is h b = subst (λ n. (get_or records i d).actor < n) (sym (ap actors is ∙ actors_after_events w xs)) (h i d b)

-- ---- lists of events

refused_front : (w : World) (xs ys : List (ℕ × Event)) (r : Refusal) → IsFirstRefusal w xs r → IsFirstRefusal w (xs ++ ys) r
refused_front w [] ys r h = absurd h
refused_front w (x ∷ xs) ys r (inl e) = inl e
refused_front w (x ∷ xs) ys r (inr p) = inr (p.0, refused_front (world_after_event w x.0 x.1) xs ys r p.1)

refused_after : (w : World) (xs ys : List (ℕ × Event)) (r : Refusal) → AreAccepted w xs → IsFirstRefusal (world_after_events w xs) ys r → IsFirstRefusal w (xs ++ ys) r
refused_after w [] ys r a h = h
refused_after w (x ∷ xs) ys r a h = inr (a.0, refused_after (world_after_event w x.0 x.1) xs ys r a.1 h)

refused_steps : (w : World) (c n k : ℕ) (r : Refusal) → n < k → AreAccepted w (steps_of c n) → event_refusal (world_after_events w (steps_of c n)) c Step ≡ Some r → IsFirstRefusal w (steps_of c k) r
refused_steps w c n zero r b a e = absurd (omega arith)
refused_steps w c zero (suc k) r b a e = inl e
refused_steps w c (suc n) (suc k) r b a e = inr (a.0, refused_steps (world_after_event w c Step) c n k r (omega arith) a.1 e)

-- ---- a record that ends early

module _ (w v : World) (x : Record) (r : Refusal) where
  abbrev own : List (ℕ × Event)
  own = (x.actor, own_event x.event) ∷ []

  refused_as : IsFirstRefusal w (steps_of x.actor (steps_in x.event) ++ own) r → IsFirstRefusal w (events_of x.actor x.event) r
  refused_as h = subst (λ (xs : List (ℕ × Event)). IsFirstRefusal w xs r) (parts_of x.actor x.event) h

  -- at one of its steps
  pub steps_refused : (n : ℕ) → n < steps_in x.event → HasMade w v (steps_of x.actor n) → IsRefusedFor v (x.actor, Step) r → IsFirstRefusal w (events_of x.actor x.event) r
  steps_refused n few made refused =
      refused_as (refused_front w (steps_of x.actor (steps_in x.event)) own r
      (refused_steps w x.actor n (steps_in x.event) r few made.accepted (subst (λ (u : World). IsRefusedFor u (x.actor, Step) r) made.world refused)))

  -- at its own event
  pub own_refused : HasMade w v (steps_of x.actor (steps_in x.event)) → IsRefusedFor v (x.actor, own_event x.event) r → IsFirstRefusal w (events_of x.actor x.event) r
  own_refused made refused =
      refused_as (refused_after w (steps_of x.actor (steps_in x.event)) own r made.accepted
      (inl (subst (λ (u : World). IsRefusedFor u (x.actor, own_event x.event) r) made.world refused)))

  -- at the one or the other
  pub record_refused : (n : ℕ) → n ≤ steps_in x.event → HasMade w v (steps_of x.actor (n - 0)) → IsRefusedFor v (event_in n x) r → IsFirstRefusal w (events_of x.actor x.event) r
  record_refused n few made refused = elim (cases_lt n (steps_in x.event)) [
    | inl lt ↦
        let same : n - 0 ≡ n = omega arith in
        steps_refused n lt (made_as_many w v x.actor (n - 0) n same made) (subst (λ (e : ℕ × Event). IsRefusedFor v e r) (step_in n x lt) refused)
    | inr ge ↦
        let all : n - 0 ≡ steps_in x.event = omega (arith, few, ge) in
        own_refused (made_as_many w v x.actor (n - 0) (steps_in x.event) all made) (subst (λ (e : ℕ × Event). IsRefusedFor v e r) (own_in n x ge) refused)
  ]

-- ---- and one that is finished

pub all_made : (w u : World) (x : Record) → HasMade w u (rest_of 0 x) → HasMade w u (events_of x.actor x.event)
all_made w u x h = made_as w u (rest_of 0 x) (events_of x.actor x.event) (all_of x) h

pub all_kept : (k m : BootAndHistory) (w : World) (x : Record) → m ≡ kept_of k w (rest_of 0 x) → m ≡ kept_of k w (events_of x.actor x.event)
all_kept k m w x h = h ∙ ap (kept_of k w) (all_of x)

-- ---- records, one more

split_there : (records : List Record) (i : ℕ) (d : Record) → i < length records → records ≡ take i records ++ get_or records i d ∷ drop (suc i) records
split_there [] i d b = absurd (omega arith)
split_there (k ∷ ks) zero d b = refl
split_there (k ∷ ks) (suc i) d b = ap (λ (x : List Record). k ∷ x) (split_there ks i d (omega arith))

length_there : (records : List Record) (i : ℕ) → i < length records → length (take i records) ≡ i
length_there [] i b = absurd (omega arith)
length_there (k ∷ ks) zero b = refl
length_there (k ∷ ks) (suc i) b = ap (λ n. suc n) (length_there ks i (omega arith))

module _ (w v : World) (records : List Record) (i : ℕ) (d : Record) (b : i < length records) (a : AreAccepted w (events_of_history (take i records))) (after : v ≡ world_after_events w (events_of_history (take i records))) where
  abbrev entry : Record
  entry = get_or records i d

  more : events_of_history (take (i + 1) records) ≡ events_of_history (take i records) ++ events_of entry.actor entry.event
  more = ap (λ (rs : List Record). events_of_history rs) (take_more records i d b) ∙ unfolded_more (take i records) entry

  pub next_accepted : AreAccepted v (events_of entry.actor entry.event) → AreAccepted w (events_of_history (take (i + 1) records))
  next_accepted h =
      subst (λ (es : List (ℕ × Event)). AreAccepted w es) (sym more)
      (accepted_both w (events_of_history (take i records)) (events_of entry.actor entry.event) a (subst (λ (x : World). AreAccepted x (events_of entry.actor entry.event)) after h))

  pub next_world : (u : World) → u ≡ world_after_events v (events_of entry.actor entry.event) → u ≡ world_after_events w (events_of_history (take (i + 1) records))
  next_world u h =
      h ∙ ap (λ (x : World). world_after_events x (events_of entry.actor entry.event)) after
      ∙ sym (ap (λ (es : List (ℕ × Event)). world_after_events w es) more ∙ after_both w (events_of_history (take i records)) (events_of entry.actor entry.event))

  pub next_kept : (k m l : BootAndHistory) → m ≡ kept_of k w (events_of_history (take i records)) → l ≡ kept_of m v (events_of entry.actor entry.event) → l ≡ kept_of k w (events_of_history (take (i + 1) records))
  next_kept k m l above h =
      h ∙ ap (λ (x : BootAndHistory). kept_of x v (events_of entry.actor entry.event)) above
      ∙ ap (λ (x : World). kept_of (kept_of k w (events_of_history (take i records))) x (events_of entry.actor entry.event)) after
      ∙ sym (kept_both w k (events_of_history (take i records)) (events_of entry.actor entry.event) a)
      ∙ sym (ap (kept_of k w) more)

  pub refused_at : (n : ℕ) (r : Refusal) → n ≡ i + 1 → IsFirstRefusal v (events_of entry.actor entry.event) r → IsRefusedAt w records n r
  refused_at n r e h = (
    take i records,
    drop (suc i) records,
    entry,
    split_there records i d b,
    a,
    subst (λ (x : World). IsFirstRefusal x (events_of entry.actor entry.event) r) after h,
    e ∙ ap (λ k. k + 1) (sym (length_there records i b)),
  )
