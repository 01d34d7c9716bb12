-- What is seen of an event before it is made.
use Rattle.std.specs.Prelude.{◌≡◌, ℕ, Option, Some, None}
use Rattle.mx_look.specs.Glances.{glance_of}
use Rattle.mx_look.specs.declared.glance.Glance.{Glance}
use Rattle.mx_machine.specs.declared.history.Recorded.{Recorded}
use Rattle.mx_machine.specs.World.{World}

-- before an event that is a record's own: the world and the actor
abbrev pub HasSeenBefore : World → ℕ → Option Recorded → Glance → ℕ → Type 0
HasSeenBefore w a None before actor = Unit {0}
HasSeenBefore w a (Some e) before actor = (before ≡ glance_of w) × (actor ≡ a)
