-- The slot of a request (our own).
use Rattle.std.specs.Prelude.{ℕ, length, Option, Some, None, Result, Ok, Err, slice_get}
use Rattle.std.specs.Option.{option_map}
use Rattle.mx_exec.specs.declared.image.Image.{Image}
use Rattle.mx_machine.specs.declared.history.Record.{Record}
use Rattle.mx_machine.specs.World.{HeldProcess, World, held_by}
use Rattle.mx_print_answers.specs.DebugError.TheVariants.{NotHere}
use Rattle.mx_print_answers.specs.Slots.{image_in, slot_named}
use Rattle.mx_print_answers.specs.declared.refused.Refused.{Refused as Kind}
use Rattle.mx_print_answers.specs.declared.refused.Refused.TheVariants.{ByDebugger}
use Rattle.mx_walk.specs.Walks.{Walk, world_here}

abbrev pub slot_next : World → Option Record → Option ℕ
slot_next w None = None
slot_next w (Some x) = option_map (λ (l : HeldProcess). l.slot) (held_by w x.actor)

abbrev pub or_not_here : Option ℕ → Result ℕ Kind
or_not_here None = Err (ByDebugger NotHere)
or_not_here (Some s) = Ok s

-- THE SLOT: the one that is named, if it has a service; else that on the processor whose record is next
abbrev pub slot_asked : Walk → Option ℕ → Result ℕ Kind
slot_asked k None = or_not_here (slot_next (world_here k) (slice_get k.records k.here.records))
slot_asked k (Some s) = slot_named (world_here k) s

abbrev pub limit_of : Option Image → ℕ
limit_of None = 0
limit_of (Some m) = length m.memory

-- how many bytes the memory of a slot's process has
abbrev pub limit_in : World → ℕ → ℕ
limit_in w s = limit_of (image_in w s)
