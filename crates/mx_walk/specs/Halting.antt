-- Where a search halts that halts before some steps (our own).
use Rattle.std.specs.Prelude.{◌≡◌, ℕ, Bool, true, false, List, Option, Some, None}
use Rattle.mx_machine.specs.declared.events.Event.{Event}
use Rattle.mx_machine.specs.declared.history.Record.{Record}
use Rattle.mx_machine.specs.World.{World}
use Rattle.mx_walk.specs.declared.halting.Halt.{Halt}
use Rattle.mx_walk.specs.declared.halting.Halt.TheVariants.{After, Before, Nowhere}
use Rattle.mx_walk.specs.declared.positions.Position.{Position}
use Rattle.mx_walk.specs.declared.stopping.CodePlace.{CodePlace}
use Rattle.mx_walk.specs.Positions.{HasHalted, IsBefore, IsUpTo, next_event, world_at}
use Rattle.mx_walk.specs.Seeking.{IsFirstMarked, IsPassed}
use Rattle.mx_walk.specs.Stopping.{comes_any, leaves_any}

-- what comes to one of these places is marked
abbrev pub MarksComing : (World → ℕ × Event → World → Bool) → List CodePlace → Type 0
MarksComing f ps = (w : World) (x : ℕ × Event) (u : World) → comes_any ps w x u ≡ true → f w x u ≡ true

-- the next event, if there is one, leaves one of these places
abbrev pub is_left_next : List CodePlace → World → Option (ℕ × Event) → Bool
is_left_next ps w None = false
is_left_next ps w (Some x) = leaves_any ps w x w

-- WHERE A SEARCH HALTS, from one position on and up to another: with no marked event on the way, before a step that
-- leaves one of these places; right after the first event that is marked; or at the end of the way, with none
abbrev pub HaltsAt : (World → ℕ × Event → World → Bool) → List CodePlace → World → List Record → Position → Position
    → Position → Halt → Type 0
HaltsAt f ps boot records from to p Before =
    IsPassed f boot records from p × (is_left_next ps (world_at boot records p) (next_event records p) ≡ true)
    × IsBefore p to
HaltsAt f ps boot records from to p After = IsFirstMarked f boot records from p × IsUpTo p to
HaltsAt f ps boot records from to p Nowhere = IsPassed f boot records from p × HasHalted boot records to p
