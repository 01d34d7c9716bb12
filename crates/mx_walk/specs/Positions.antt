-- POSITIONS in a history, and the world at each of them (our own).
use Rattle.std.specs.Prelude.{◌≡◌, ◌⊎◌, ◌<◌, ◌≤◌, ℕ, ◌+◌, ◌-◌, nat_lt, if◌then◌else◌, List, [], ◌∷◌, ◌++◌, length, take, drop, replicate, Option, Some, None, Bool, ◌==◌, ◌&&◌, nat_le}
use Rattle.mx_machine.specs.declared.events.Event.{Event}
use Rattle.mx_machine.specs.declared.events.Event.TheVariants as event
use Rattle.mx_machine.specs.declared.events.Refusal.{Refusal}
use Rattle.mx_machine.specs.declared.history.Record.{Record}
use Rattle.mx_machine.specs.declared.history.Recorded.{Recorded}
use Rattle.mx_machine.specs.declared.history.Recorded.TheVariants as recorded
use Rattle.mx_machine.specs.History.{AreAccepted, world_after_events, events_of_history}
use Rattle.mx_machine.specs.Move.{event_refusal}
use Rattle.mx_machine.specs.World.{World}
use Rattle.mx_machine.specs.Machine.{MachineState, world_of}
use Rattle.mx_walk.specs.declared.positions.Position.{Position}

-- ---- a record: its steps, and its own event after them

abbrev pub steps_in : Recorded → ℕ
steps_in recorded.Take = 0
steps_in (recorded.Back n) = n
steps_in (recorded.Line l) = 0
steps_in recorded.Tick = 0
steps_in (recorded.Kill e) = 0
steps_in (recorded.Respawn s) = 0

abbrev pub own_event : Recorded → Event
own_event recorded.Take = event.Take
own_event (recorded.Back n) = event.Back
own_event (recorded.Line l) = event.Line l
own_event recorded.Tick = event.Tick
own_event (recorded.Kill e) = event.Kill e
own_event (recorded.Respawn s) = event.Respawn s

-- n steps of processor a
abbrev pub steps_of : ℕ → ℕ → List (ℕ × Event)
steps_of a n = replicate n (a, event.Step)

-- the event of a record that comes next when j of its steps are made
abbrev pub event_in : ℕ → Record → ℕ × Event
event_in j x = (x.actor, if nat_lt j (steps_in x.event) then event.Step else own_event x.event)

-- all its events that come then
abbrev pub rest_of : ℕ → Record → List (ℕ × Event)
rest_of j x = steps_of x.actor (steps_in x.event - j) ++ (x.actor, own_event x.event) ∷ []

-- ---- positions

-- the first j steps of the first of these records
abbrev pub begun : ℕ → List Record → List (ℕ × Event)
begun j [] = []
begun j (x ∷ xs) = steps_of x.actor j

-- how many steps the first of these records has
abbrev pub first_steps : List Record → ℕ
first_steps [] = 0
first_steps (x ∷ xs) = steps_in x.event

-- the next event of these records when j steps of the first are made
abbrev pub first_event : ℕ → List Record → Option (ℕ × Event)
first_event j [] = None
first_event j (x ∷ xs) = Some (event_in j x)

-- A POSITION OF A HISTORY: after no more records than there are, and no more steps than the next one has
pub record IsPosition (records : List Record) (p : Position) : Type 0 where
  pub earlier : p.records ≤ length records
  pub inside : p.steps ≤ first_steps (drop p.records records)

-- before all records
abbrev pub first : Position
first = record { records = 0; steps = 0 }

-- after all records
abbrev pub end_of : List Record → Position
end_of records = record { records = length records; steps = 0 }

-- one position is before another
abbrev pub IsBefore : Position → Position → Type 0
IsBefore p q = (p.records < q.records) ⊎ ((p.records ≡ q.records) × (p.steps < q.steps))

-- or it is the other
abbrev pub IsUpTo : Position → Position → Type 0
IsUpTo p q = (p.records < q.records) ⊎ ((p.records ≡ q.records) × (p.steps ≤ q.steps))

-- THE EVENTS BEFORE A POSITION: those of the records before it, and the steps of the next
unfoldable pub events_before : List Record → Position → List (ℕ × Event)
events_before records p = events_of_history (take p.records records) ++ begun p.steps (drop p.records records)

-- THE EVENT AFTER A POSITION, if it isn't the end
unfoldable pub next_event : List Record → Position → Option (ℕ × Event)
next_event records p = first_event p.steps (drop p.records records)

-- THE WORLD AT A POSITION of a history that begins at world w
abbrev pub world_at : World → List Record → Position → World
world_at w records p = world_after_events w (events_before records p)

-- the order of positions, and whether a position is in a history, as tests that compute
abbrev pub is_up_to : Position → Position → Bool
is_up_to p q = if p.records == q.records then nat_le p.steps q.steps else nat_lt p.records q.records

abbrev pub is_position : List Record → Position → Bool
is_position records p =
    if nat_lt p.records (length records) then nat_le p.steps (first_steps (drop p.records records))
    else (p.records == length records) && (p.steps == 0)

-- ---- machines

-- these events were made, one after another, and none was refused
pub record HasMade (w u : World) (xs : List (ℕ × Event)) : Type 0 where
  pub accepted : AreAccepted w xs
  pub world : u ≡ world_after_events w xs

-- an event is refused, and why
abbrev pub IsRefusedFor : World → ℕ × Event → Refusal → Type 0
IsRefusedFor w x r = event_refusal w x.0 x.1 ≡ Some r

-- for some reason
abbrev pub IsRefused : World → ℕ × Event → Type 0
IsRefused w x = (r : Refusal) × IsRefusedFor w x r

-- A MACHINE IS AT A POSITION: its world is the one there, and each event before it was accepted
pub record IsAt (boot : World) (records : List Record) (p : Position) (m : MachineState) : Type 0 where
  pub position : IsPosition records p
  pub booted : m.kernel.boot ≡ boot
  pub made : HasMade boot (world_of m) (events_before records p)

-- the event after a position is refused there
abbrev pub IsBlocked : World → List Record → Position → Type 0
IsBlocked boot records p = (x : ℕ × Event) × (next_event records p ≡ Some x) × IsRefused (world_at boot records p) x

-- where a machine halts on its way to a position: there, or at an event before it that is refused
abbrev pub HasHalted : World → List Record → Position → Position → Type 0
HasHalted boot records to p = (p ≡ to) ⊎ (IsBefore p to × IsBlocked boot records p)

-- nothing can be made at a position: it is the end, or the event after it is refused
abbrev pub IsStuck : World → List Record → Position → Type 0
IsStuck boot records p = (next_event records p ≡ None) ⊎ IsBlocked boot records p

-- ---- from one position to the next

abbrev pub next_by : Position → List Record → Position
next_by p [] = p
next_by p (x ∷ xs) =
    if nat_lt p.steps (steps_in x.event) then record p { steps = p.steps + 1 }
    else record { records = p.records + 1; steps = 0 }

-- THE NEXT POSITION, after the event that is after this one; the end stays
unfoldable pub next_position : List Record → Position → Position
next_position records p = next_by p (drop p.records records)

-- THE POSITION BEFORE, which isn't asked of the first
unfoldable pub position_before : List Record → Position → Position
position_before records p =
    if nat_lt 0 p.steps then record p { steps = p.steps - 1 }
    else record { records = p.records - 1; steps = first_steps (drop (p.records - 1) records) }

-- how many events are after a position
abbrev pub left_by : ℕ → List Record → ℕ
left_by j [] = 0
left_by j (x ∷ xs) = (steps_in x.event - j) + 1 + left_by 0 xs

unfoldable pub events_left : List Record → Position → ℕ
events_left records p = left_by p.steps (drop p.records records)
