-- HISTORIES IN ANY ORDER: takes, returns at stops, new processes, and the outside events that are to come, as they come
-- (our own).
use Rattle.std.specs.Prelude.{ℕ, ◌≡◌, false, List, [], ◌∷◌, ◌++◌, drop, length, Option, slice_get}
use Rattle.mx_walk.specs.Kept.{kept_of}
use Rattle.mx_machine.specs.declared.events.Event.{Event}
use Rattle.mx_machine.specs.declared.events.Event.TheVariants as events
use Rattle.mx_machine.specs.History.{world_after_events}
use Rattle.mx_machine.specs.World.{World}
use Rattle.mx_turns.specs.Turns.{Offered, is_over, next_now, offered, outside, run_of, world_after}
use Rattle.mx_turns.specs.declared.outside.OutsideLine.{OutsideLine}
use Rattle.mx_explore.specs.declared.passing.Departure.{Departure}
use Rattle.mx_explore.specs.Passing.{IsSchedule, Place, Setting, run_of_schedule}
use Rattle.mx_explore.specs.Passing.{BackBy, FromOutside, NewIn, TakeBy}

-- what is tried at a place, by what comes from outside next: a processor takes; it makes the steps of its process up to
-- the stop, and brings it back; the next outside event comes; a slot gets a new process
abbrev pub tried_at : ℕ → Option Event → Place → List (ℕ × Event)
tried_at other next (TakeBy c) = (c, events.Take) ∷ []
tried_at other next (BackBy c) = run_of c
tried_at other next FromOutside = outside other next
tried_at other next (NewIn s) = (other, events.Respawn s) ∷ []

-- what comes of it
abbrev pub comes_at : World → List OutsideLine → Place → Offered
comes_at w coming z = offered w (tried_at (length w.cpus) (next_now w.table (slice_get coming 0)) z)

-- the outside events that are to come after it
abbrev pub coming_after : List OutsideLine → Place → List OutsideLine
coming_after coming FromOutside = drop 1 coming
coming_after coming z = coming

-- A HISTORY IN THIS ORDER, from a world on: what comes at one place after another, until nothing is left to do, while the
-- history has room
abbrev pub IsInOrder : World → List OutsideLine → List Place → List (ℕ × Event) → Type 0
IsInOrder w coming [] xs = xs ≡ []
IsInOrder w coming (z ∷ zs) xs =
    let o = comes_at w coming z in
    (is_over w coming ≡ false) × (o.full ≡ false)
    × (ys : List (ℕ × Event)) × (xs ≡ o.made ++ ys) × IsInOrder (world_after w o) (coming_after coming z) zs ys

-- A SCHEDULE OF A HISTORY: its run makes these events, and no other
pub record IsOf (t : Setting) (xs : List (ℕ × Event)) (ds : List Departure) : Type 0 where
  pub met : IsSchedule t ds
  pub kernel : (run_of_schedule t ds).0.kernel ≡ kept_of (record { boot = t.boot; history = [] }) t.boot xs
  pub world : (run_of_schedule t ds).0.world ≡ world_after_events t.boot xs
