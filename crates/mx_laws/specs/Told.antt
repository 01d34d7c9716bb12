-- The laws of the facts of a transition, as statements (our own).
use Rattle.std.specs.Prelude.{◌≡◌, ◌<◌, ◌≤◌, ℕ, List, [], ◌∷◌, length, Option, Some, None}
use Rattle.mx_machine.specs.declared.history.Record.{Record}
use Rattle.mx_machine.specs.History.{AreAccepted, events_of, world_after_events}
use Rattle.mx_machine.specs.Sound.{IsSound}
use Rattle.mx_machine.specs.World.{World}
use Rattle.mx_laws.specs.Diary.{Item}
use Rattle.mx_laws.specs.Diary.Item.{Ran, Result, Message, Copy}
use Rattle.mx_laws.specs.Diaries.{diary}
use Rattle.mx_look.specs.Going.{gone_on}
use Rattle.mx_app_step.specs.Traces.{own_event, transition_of, steps_before}

-- the world in which the event of a record is made: after the steps that the record counts
abbrev pub world_before : World → Record → World
world_before w x = world_after_events w (steps_before x.actor x.event)

-- A record that is made in a world. The machine is sound when its event is made, and has at most eight processors.
pub record IsMadeIn (w : World) (x : Record) : Type 0 where
  pub accepted : AreAccepted w (events_of x.actor x.event)
  pub sound : IsSound (world_before w x)
  pub few : length (world_before w x).cpus ≤ 8

-- a slot that has a service then
abbrev pub IsServed : World → Record → ℕ → Type 0
IsServed w x s = s < length (world_before w x).services

-- ---- results

-- what the items of a diary leave as the last result, after this one
abbrev pub result_after : Option ℕ → List Item → Option ℕ
result_after r [] = r
result_after r (Ran ∷ xs) = result_after r xs
result_after r (Result n ∷ xs) = result_after (Some n) xs
result_after r (Message bytes ∷ xs) = result_after r xs
result_after r (Copy place bytes ∷ xs) = result_after r xs

-- WHAT AN EVENT PUTS INTO EAX, by the slot's diary over it: the last result there, if there is one
abbrev pub result_written : List Item → Option ℕ
result_written items = result_after None items

-- WHO HAS GONE ON WITH A RESULT, in the facts of a record, is whose EAX its event set to it
abbrev pub ToldGoneOn : World → ℕ → Record → ℕ → Type 0
ToldGoneOn w n x s =
    gone_on (transition_of w n x) s ≡ result_written (diary (world_before w x) x.actor (own_event x.event) s)
