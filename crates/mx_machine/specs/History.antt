-- A kernel's history, and the world that the history leads to.
use Rattle.std.specs.Prelude.{◌≡◌, ◌<◌, ◌^◌, ℕ, ◌==◌, List, [], ◌∷◌, ◌++◌, None, replicate, filter}
use Rattle.mx_machine.specs.declared.events.Event.{Event}
use Rattle.mx_machine.specs.declared.events.Event.TheVariants as event
use Rattle.mx_machine.specs.declared.history.Record.{Record}
use Rattle.mx_machine.specs.declared.history.Recorded.{Recorded}
use Rattle.mx_machine.specs.declared.history.Recorded.TheVariants as recorded
use Rattle.mx_machine.specs.World.{World}
use Rattle.mx_machine.specs.Move.{event_refusal, world_after_event}

-- the events of a record of actor a. Back 2 is Step, Step, Back
abbrev pub events_of : ℕ → Recorded → List (ℕ × Event)
events_of a recorded.Take = (a, event.Take) ∷ []
events_of a (recorded.Back n) = replicate n (a, event.Step) ++ (a, event.Back) ∷ []
events_of a (recorded.Line l) = (a, event.Line l) ∷ []
events_of a recorded.Tick = (a, event.Tick) ∷ []
events_of a (recorded.Kill e) = (a, event.Kill e) ∷ []
events_of a (recorded.Respawn s) = (a, event.Respawn s) ∷ []

-- UNFOLD: all events of a history's records, in order
abbrev pub events_of_history : List Record → List (ℕ × Event)
events_of_history [] = []
events_of_history (x ∷ xs) = events_of x.actor x.event ++ events_of_history xs

-- PART: the records of actor a only, in order
abbrev pub part_of : List Record → ℕ → List Record
part_of records a = filter (λ (x : Record). x.actor == a) records

-- the world after these events, if the machine refuses none of them. A pair is an actor and its event
abbrev pub world_after_events : World → List (ℕ × Event) → World
world_after_events w [] = w
world_after_events w (x ∷ xs) = world_after_events (world_after_event w x.0 x.1) xs

-- the machine accepts each of these events, if they are made one after another from world w on
abbrev pub AreAccepted : World → List (ℕ × Event) → Type 0
AreAccepted w [] = Unit {0}
AreAccepted w (x ∷ xs) = (event_refusal w x.0 x.1 ≡ None) × AreAccepted (world_after_event w x.0 x.1) xs

-- the number in a record: steps, line, endpoint or slot; 0 if it has none
abbrev pub number_of_record : Recorded → ℕ
number_of_record recorded.Take = 0
number_of_record (recorded.Back n) = n
number_of_record (recorded.Line l) = l
number_of_record recorded.Tick = 0
number_of_record (recorded.Kill e) = e
number_of_record (recorded.Respawn s) = s

-- A text can have this record: its actor is one of the machine's, and its number is below 2 ^ 31.
pub record IsWritable (actors : ℕ) (x : Record) : Type 0 where
  pub actor : x.actor < actors
  pub number : number_of_record x.event < 2 ^ 31

-- What a contract sees of a kernel: the world at its boot, and the records made since then.
pub record BootAndHistory : Type 0 where
  pub boot : World
  pub history : List Record

-- REPLAY: the world that a kernel is at now: that of its boot, after all events of its history
unfoldable pub replay : BootAndHistory → World
replay k = world_after_events k.boot (events_of_history k.history)

-- a kernel after one more record: actor a made the event e
abbrev pub with_record : BootAndHistory → ℕ → Recorded → BootAndHistory
with_record k a e = record k { history = k.history ++ record { actor = a; event = e } ∷ [] }
