-- Laws of events.
use Rattle.std.specs.Prelude.{ℕ, ◌≡◌, ◌≢◌, All, IsOk}
use Rattle.mx_machine.specs.declared.events.Event.{Event}
use Rattle.mx_machine.specs.declared.events.Event.TheVariants.{Step, Take, Back}
use Rattle.mx_machine.specs.World.{World}
use Rattle.mx_machine.specs.History.{BootAndHistory, events_of_history, replay}
use Rattle.mx_machine.specs.Move.{move, moves}
use Rattle.mx_machine.specs.Machine.{IsActor}

-- two events commute: in both orders each has one answer, and one world comes after them
pub record ChangePlaces (w : World) (a : ℕ) (x : Event) (b : ℕ) (y : Event) : Type 0 where
  pub first : (move (move w b y).1 a x).0 ≡ (move w a x).0
  pub second : (move (move w a x).1 b y).0 ≡ (move w b y).0
  pub world : (move (move w a x).1 b y).1 ≡ (move (move w b y).1 a x).1

-- an event other than this processor's own steps, takes and returns
abbrev pub IsOthers : ℕ → ℕ → Event → Type 0
IsOthers c a Step = a ≢ c
IsOthers c a Take = a ≢ c
IsOthers c a Back = a ≢ c
IsOthers c a _ = Unit {0}

-- a history replays: each event of it is accepted, and they lead to its replay
pub record Replays (k : BootAndHistory) : Type 0 where
  pub accepted : All IsOk (moves k.boot (events_of_history k.history)).0
  pub world : (moves k.boot (events_of_history k.history)).1 ≡ replay k

-- a machine that begins at the history's boot replays it too: it may make the events of the history, each is
-- accepted, and they lead to the replay
pub record RunsAgain (w : World) (k : BootAndHistory) : Type 0 where
  pub may : All (λ (x : ℕ × Event). IsActor w x.0 x.1) (events_of_history k.history)
  pub accepted : All IsOk (moves w (events_of_history k.history)).0
  pub world : (moves w (events_of_history k.history)).1 ≡ replay k
