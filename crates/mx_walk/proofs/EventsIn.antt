-- The events of a record: which comes next, and all of them.
use Rattle.std.proofs.Common.{◌≡◌, ◌∙◌, ◌<◌, ◌≤◌, ℕ, ◌-◌, cond, [], ◌∷◌, ◌++◌, refl, ap, arith}
use Rattle.std.proofs.lemmas.Bool.{le-ltb, lt-ltb}
use Rattle.mx_machine.specs.declared.events.Event.{Event}
use Rattle.mx_machine.specs.declared.events.Event.TheVariants as event
use Rattle.mx_machine.specs.declared.history.Record.{Record}
use Rattle.mx_machine.specs.declared.history.Recorded.{Recorded}
use Rattle.mx_machine.specs.declared.history.Recorded.TheVariants as recorded
use Rattle.mx_machine.specs.History.{events_of}
use Rattle.mx_walk.specs.Positions.{event_in, own_event, rest_of, steps_in, steps_of}

-- a step, while there are some
pub step_in : (j : ℕ) (x : Record) → j < steps_in x.event → event_in j x ≡ (x.actor, event.Step)
step_in j x lt = ap (λ c. let y : ℕ × Event = (x.actor, cond c event.Step (own_event x.event)) in y) (lt-ltb j (steps_in x.event) lt)

-- and then its own event
pub own_in : (j : ℕ) (x : Record) → steps_in x.event ≤ j → event_in j x ≡ (x.actor, own_event x.event)
own_in j x ge = ap (λ c. let y : ℕ × Event = (x.actor, cond c event.Step (own_event x.event)) in y) (le-ltb j (steps_in x.event) ge)

-- a record is its steps, and its own event after them
pub parts_of : (a : ℕ) (e : Recorded) → steps_of a (steps_in e) ++ (a, own_event e) ∷ [] ≡ events_of a e
parts_of a recorded.Take = refl
parts_of a (recorded.Back n) = refl
parts_of a (recorded.Line l) = refl
parts_of a recorded.Tick = refl
parts_of a (recorded.Kill e) = refl
parts_of a (recorded.Respawn s) = refl

pub all_of : (x : Record) → rest_of 0 x ≡ events_of x.actor x.event
all_of x =
    let all : steps_in x.event - 0 ≡ steps_in x.event = omega arith in
    ap (λ i. steps_of x.actor i ++ (x.actor, own_event x.event) ∷ []) all ∙ parts_of x.actor x.event
