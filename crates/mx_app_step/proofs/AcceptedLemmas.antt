-- The first records of an accepted history, and its refusals: it has none.
use Rattle.std.proofs.Common.{◌≡◌, ◌∙◌, ℕ, List, [], ◌∷◌, ◌++◌, Some, None, drop, take, append_assoc, inl, inr, refl, ap, sym, subst}
use Rattle.std.proofs.lemmas.List.{take-append-drop}
use Rattle.mx_machine.specs.declared.events.Event.{Event}
use Rattle.mx_machine.specs.declared.events.Refusal.{Refusal}
use Rattle.mx_machine.specs.declared.history.Record.{Record}
use Rattle.mx_machine.specs.History.{AreAccepted, events_of, events_of_history, world_after_events}
use Rattle.mx_machine.specs.Move.{world_after_event}
use Rattle.mx_machine.specs.World.{World}
use Rattle.mx_app_step.specs.Records.{IsFirstRefusal, IsRefusedAt}

events_both : (xs ys : List Record) → events_of_history (xs ++ ys) ≡ events_of_history xs ++ events_of_history ys
events_both [] ys = refl
events_both (x ∷ xs) ys = ap (λ l. events_of x.actor x.event ++ l) (events_both xs ys) ∙ sym (append_assoc (events_of x.actor x.event) (events_of_history xs) (events_of_history ys))

accepted_front : (w : World) (xs ys : List (ℕ × Event)) → AreAccepted w (xs ++ ys) → AreAccepted w xs
accepted_front w [] ys h = tt
accepted_front w (x ∷ xs) ys h = (h.0, accepted_front (world_after_event w x.0 x.1) xs ys h.1)

accepted_after : (w : World) (xs ys : List (ℕ × Event)) → AreAccepted w (xs ++ ys) → AreAccepted (world_after_events w xs) ys
accepted_after w [] ys h = h
accepted_after w (x ∷ xs) ys h = accepted_after (world_after_event w x.0 x.1) xs ys h.1

never_refused : (w : World) (xs ys : List (ℕ × Event)) (r : Refusal) → AreAccepted w (xs ++ ys) → IsFirstRefusal w xs r → ⊥
never_refused w [] ys r h q = q
never_refused w (x ∷ xs) ys r h q = elim q [
  | inl e ↦ (let both : None ≡ Some r = sym h.0 ∙ e in absurd cc)
  | inr p ↦ never_refused (world_after_event w x.0 x.1) xs ys r h.1 p.1
]

-- the first records of an accepted history are accepted
pub front_accepted : (w : World) (records : List Record) (k : ℕ) → AreAccepted w (events_of_history records) → AreAccepted w (events_of_history (take k records))
front_accepted w records k h =
    accepted_front w (events_of_history (take k records)) (events_of_history (drop k records))
    (subst (AreAccepted w) (ap events_of_history (sym (take-append-drop k records)) ∙ events_both (take k records) (drop k records)) h)

-- no record of an accepted history is refused
pub not_refused : (w : World) (records : List Record) (n : ℕ) (r : Refusal) → AreAccepted w (events_of_history records) → IsRefusedAt w records n r → ⊥
not_refused w records n r h q =
    let above = q.0 in
    let below = q.1 in
    let x = q.2 in
    let parts = ap events_of_history q.3 ∙ events_both above (x ∷ below) in
    never_refused (world_after_events w (events_of_history above)) (events_of x.actor x.event) (events_of_history below) r
    (accepted_after w (events_of_history above) (events_of_history (x ∷ below)) (subst (AreAccepted w) parts h)) q.5
