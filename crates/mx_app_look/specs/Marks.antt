-- What a session halts at (our own).
use Rattle.std.specs.Prelude.{ℕ, ◌||◌, Bool, map}
use Rattle.mx_debug.specs.declared.points.Breakpoint.{Breakpoint}
use Rattle.mx_machine.specs.declared.events.Event.{Event}
use Rattle.mx_machine.specs.World.{World}
use Rattle.mx_walk.specs.declared.stopping.CodePlace.{CodePlace}
use Rattle.mx_walk.specs.declared.watching.BytePlace.{BytePlace}
use Rattle.mx_walk.specs.Several.{any_marks}
use Rattle.mx_walk.specs.Stopping.{leaves}
use Rattle.mx_walk.specs.Watching.{is_changed}
use Rattle.mx_app_look.specs.declared.points.Points.{Points}
use Rattle.mx_app_look.specs.declared.watches.Watch.{Watch}
use Rattle.mx_app_look.specs.Watches.{places_of}

abbrev pub code_place : Breakpoint → CodePlace
code_place p = record { slot = p.slot; address = p.address }

-- an event from one world to another changes this byte
abbrev pub changes : BytePlace → World → ℕ × Event → World → Bool
changes b w x u = is_changed b w u

-- an event is the step at this place
abbrev pub leaving : CodePlace → World → ℕ × Event → World → Bool
leaving p w x u = leaves p w x

-- it changes some of a watch's bytes
abbrev pub changes_bytes : Watch → World → ℕ × Event → World → Bool
changes_bytes y w x u = any_marks (map changes (places_of y)) w x u

-- it changes bytes that are watched
abbrev pub changes_watched : Points → World → ℕ × Event → World → Bool
changes_watched s w x u = any_marks (map changes_bytes s.watches) w x u

-- it is the step at a breakpoint
abbrev pub leaves_breakpoint : Points → World → ℕ × Event → World → Bool
leaves_breakpoint s w x u = any_marks (map leaving (map code_place s.breakpoints)) w x u

-- WHAT IS LOOKED FOR: the one or the other
abbrev pub is_looked_for : Points → World → ℕ × Event → World → Bool
is_looked_for s w x u = changes_watched s w x u || leaves_breakpoint s w x u
