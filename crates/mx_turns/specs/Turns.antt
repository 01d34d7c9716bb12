-- Turns: one thread drives a whole machine, always in the same order (our own).
use Rattle.std.specs.Prelude.{ℕ, zero, suc, ◌≡◌, ◌-◌, ◌^◌, ◌&&◌, ◌||◌, not, Bool, true, false, List, [], ◌∷◌, ◌++◌, drop, length, map, Option, Some, None, is_none, nat_lt, slice_get, if◌then◌else◌}
use Rattle.std.specs.List.{flat_map, range_with_len}
use Rattle.mx_machine.specs.declared.events.Event.{Event}
use Rattle.mx_machine.specs.declared.events.Event.TheVariants.{Take, Back, Kill, Respawn, Tick}
use Rattle.mx_machine.specs.declared.events.Refusal.{Refusal}
use Rattle.mx_machine.specs.declared.events.Refusal.TheVariants.{LogFull}
use Rattle.mx_machine.specs.History.{world_after_events}
use Rattle.mx_machine.specs.Held.{held_run}
use Rattle.mx_machine.specs.Move.{event_refusal, held_at_take, world_after_event}
use Rattle.mx_machine.specs.Proc.States.{is_down}
use Rattle.mx_machine.specs.Proc.TableState.{TableState, endpoint_of, process_at}
use Rattle.mx_machine.specs.Respawn.{is_worn}
use Rattle.mx_machine.specs.Rest.{at_rest}
use Rattle.mx_machine.specs.Service.{Service}
use Rattle.mx_machine.specs.Steps.{steps_of}
use Rattle.mx_machine.specs.World.{World}
use Rattle.mx_turns.specs.declared.outside.OutsideLine.{OutsideLine}
use Rattle.mx_turns.specs.declared.outside.OutsideLine.TheVariants.{Plain, KillSlot}
use Rattle.mx_turns.specs.declared.turns.Ending.{Ending}
use Rattle.mx_turns.specs.declared.turns.Ending.TheVariants.{Rest, Turns, Full}

-- ---- offers

-- What comes of offers: the events that are made, in order, and whether the history was too full for one.
pub record Offered : Type 0 where
  pub made : List (ℕ × Event)
  pub full : Bool

-- what comes of the offer x, by its refusal, and by what comes of the later offers: if x is refused, and if it is made
abbrev pub offered_first : ℕ × Event → Option Refusal → Offered → Offered → Offered
offered_first x None refused accepted = record { made = x ∷ accepted.made; full = accepted.full }
offered_first x (Some LogFull) refused accepted = record { made = []; full = true }
offered_first x (Some r) refused accepted = refused

-- OFFERS, one after another: the machine makes what it accepts; what it refuses changes nothing; after a LogFull
-- nothing more is offered. A pair is an actor and its event
abbrev pub offered : World → List (ℕ × Event) → Offered
offered w [] = record { made = []; full = false }
offered w (x ∷ xs) = offered_first x (event_refusal w x.0 x.1) (offered w xs) (offered (world_after_event w x.0 x.1) xs)

-- the world after what came of offers
abbrev pub world_after : World → Offered → World
world_after w o = world_after_events w o.made

-- what comes of offers, if more are offered after them
abbrev pub then_offered : World → Offered → List (ℕ × Event) → Offered
then_offered w first xs =
    let next = offered (world_after w first) xs in record { made = first.made ++ next.made; full = next.full }

-- ---- a turn

-- first each processor may take a process
abbrev pub takes : ℕ → List (ℕ × Event)
takes cpus = map (λ c. let x : ℕ × Event = (c, Take) in x) (range_with_len 0 cpus)

-- more steps than any process may make before it comes back: a budget has 32 bits
unfoldable pub most_steps : ℕ
most_steps = 2 ^ 32 - 1

-- a processor's process makes its steps, up to its stop, and comes back
abbrev pub run_of : ℕ → List (ℕ × Event)
run_of c = steps_of c most_steps ++ (c, Back) ∷ []

-- then each processor's process does
abbrev pub runs : ℕ → List (ℕ × Event)
runs cpus = flat_map run_of (range_with_len 0 cpus)

-- ---- what comes from outside

-- the endpoint of the process that a slot has now; a number that is no slot's is its own, and names nobody
abbrev pub endpoint_now : TableState → ℕ → ℕ
endpoint_now t s = if nat_lt s (length t.slots) then endpoint_of t s else s

-- the event that it is now: a kill of a slot is one of the slot's process
abbrev pub event_now : TableState → OutsideLine → Event
event_now t (Plain e) = e
event_now t (KillSlot s) = Kill (endpoint_now t s)

abbrev pub next_now : TableState → Option OutsideLine → Option Event
next_now t None = None
next_now t (Some l) = Some (event_now t l)

-- then the actor `other` makes the next outside event, if one is to come
abbrev pub outside : ℕ → Option Event → List (ℕ × Event)
outside other None = []
outside other (Some e) = (other, e) ∷ []

-- and gives each slot a new process: the machine refuses it if the slot isn't down, or is worn
abbrev pub respawns : ℕ → ℕ → List (ℕ × Event)
respawns other slots = map (λ s. let x : ℕ × Event = (other, Respawn s) in x) (range_with_len 0 slots)

-- A TURN, by what is next from outside: the takes, the runs, and the rest. After a take that was refused for a full
-- history the rest isn't offered. The process of a slot that is to be killed is that which it has when the turn begins,
-- since none gets a new one before
abbrev pub turn : World → Option OutsideLine → Offered
turn w next =
    let cpus = length w.cpus in
    let taken = offered w (takes cpus) in
    let ran = then_offered w taken (runs cpus) in
    if taken.full then record ran { full = true }
    else then_offered w ran (outside cpus (next_now w.table next) ++ respawns cpus (length w.services))

-- ---- turns

-- What comes of turns: the events that are made, in order, and how the turns end.
pub record Course : Type 0 where
  pub made : List (ℕ × Event)
  pub ending : Ending

-- what comes of a turn and of those after it
abbrev pub then_turns : Offered → Course → Course
then_turns t later =
    if t.full then record { made = t.made; ending = Full }
    else record { made = t.made ++ later.made; ending = later.ending }

-- nothing is left to do: no outside event is to come, and the machine is at rest
abbrev pub is_over : World → List OutsideLine → Bool
is_over w xs = is_none (slice_get xs 0) && at_rest w

-- AT MOST n TURNS from world w on, with the outside events xs to come, one in each turn
abbrev pub turns : ℕ → World → List OutsideLine → Course
turns zero w xs = record { made = []; ending = if is_over w xs then Rest else Turns }
turns (suc n) w xs =
    if is_over w xs then record { made = []; ending = Rest }
    else let t = turn w (slice_get xs 0) in then_turns t (turns n (world_after w t) (drop 1 xs))

-- what comes of turns, if more are made after them
abbrev pub joined : List (ℕ × Event) → Course → Course
joined made later = record { made = made ++ later.made; ending = later.ending }

-- how many of these may be refused, and so make no record: all but the ticks
abbrev pub refusable : List OutsideLine → ℕ
refusable [] = 0
refusable (Plain Tick ∷ xs) = refusable xs
refusable (x ∷ xs) = suc (refusable xs)

-- ---- a turn of one processor

-- each slot that is down is worn, so none gets a new process
abbrev pub NoneToRespawn : World → Type 0
NoneToRespawn w =
    (s : ℕ) (v : Service) → slice_get w.services s ≡ Some v
    → (not (is_down (process_at w.table s).state) || is_worn (process_at w.table s) v) ≡ true

-- processor 0 takes the process of slot s, makes its steps up to its stop, and brings it back
abbrev pub round : World → ℕ → List (ℕ × Event)
round w s = (0, Take) ∷ steps_of 0 (held_run most_steps (held_at_take w.table s).out).0.0 ++ (0, Back) ∷ []
