-- What an event makes, and what the facts of its transition are (our own).
use Rattle.std.specs.Prelude.{◌≡◌, ◌%◌, ◌++◌, ℕ, List, [], ◌∷◌, map, Option, Some, None}
use Rattle.std.specs.List.{range_with_len}
use Rattle.mx_proc.specs.declared.deliveries.Delivery.{Delivery}
use Rattle.mx_machine.specs.declared.events.Event.{Event}
use Rattle.mx_machine.specs.declared.history.Record.{Record}
use Rattle.mx_machine.specs.Move.{world_after_event}
use Rattle.mx_machine.specs.World.{World}
use Rattle.mx_look.specs.declared.transition.Transition.{Transition}
use Rattle.mx_look.specs.Deliveries.{delivery_to}
use Rattle.mx_app_step.specs.Traces.{own_event, transition_of}
use Rattle.mx_laws.specs.Told.{world_before}

-- ---- deliveries

-- this world without its recorded deliveries
abbrev pub with_none_kept : World → World
with_none_kept w = record w { table = record w.table { deliveries = [] } }

-- WHAT AN EVENT DELIVERS: what is recorded after it, if nothing was before
abbrev pub deliveries_made : World → ℕ → Event → List Delivery
deliveries_made w a e = (world_after_event (with_none_kept w) a e).table.deliveries

-- the slot that an endpoint names
abbrev pub slot_to : Delivery → ℕ
slot_to d = d.to % 1024

-- a delivery, by the slot that got it
abbrev pub with_slot : Delivery → ℕ × Delivery
with_slot d = (slot_to d, d)

abbrev pub told_of_slot : ℕ → Option Delivery → List (ℕ × Delivery)
told_of_slot s None = []
told_of_slot s (Some d) = (s, d) ∷ []

abbrev pub told_of_slots : Transition → List ℕ → List (ℕ × Delivery)
told_of_slots x [] = []
told_of_slots x (s ∷ slots) = told_of_slot s (delivery_to x s) ++ told_of_slots x slots

-- WHAT THE SLOTS GOT, by the facts of a transition, in their order
abbrev pub told_deliveries : Transition → List (ℕ × Delivery)
told_deliveries x = told_of_slots x (range_with_len 0 32)

-- THE DELIVERIES IN THE FACTS of a record are those that its event makes, each with the slot that it came to
abbrev pub ToldAreMade : World → ℕ → Record → Type 0
ToldAreMade w n x =
    told_deliveries (transition_of w n x)
    ≡ map with_slot (deliveries_made (world_before w x) x.actor (own_event x.event))
