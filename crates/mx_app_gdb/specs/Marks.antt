-- What moves look for in a history (our own).
use Rattle.std.specs.Prelude.{ℕ, ◌==◌, ◌&&◌, nat_le, nat_lt, not, Bool, false, is_some}
use Rattle.std.specs.Prelude.{if◌then◌else◌, Option, Some, None}
use Rattle.mx_image.specs.declared.runs.Stop.{Stop}
use Rattle.mx_image.specs.declared.runs.Stop.TheVariants.{Fault, Spent, Trap}
use Rattle.mx_machine.specs.declared.events.Event.{Event}
use Rattle.mx_machine.specs.declared.holding.Out.{Out}
use Rattle.mx_machine.specs.Move.{at_stop}
use Rattle.mx_machine.specs.World.{World, HeldProcess, held_by}
use Rattle.mx_walk.specs.Stopping.{is_step}
use Rattle.mx_app_gdb.specs.declared.ranges.Range.{Range}
use Rattle.mx_app_gdb.specs.declared.threads.Counted.{Counted}
use Rattle.mx_app_gdb.specs.Addresses.{shown_address}
use Rattle.mx_app_gdb.specs.Threads.{counts}

-- ---- a step of a slot's process

abbrev pub is_of : ℕ → Option HeldProcess → Bool
is_of s None = false
is_of s (Some l) = l.slot == s

abbrev pub moves : ℕ → World → ℕ × Event → Bool
moves s w x = is_step x.1 && is_of s (held_by w x.0)

-- ---- a step that ends in a fault

abbrev pub vector_of : Stop → Option ℕ
vector_of (Fault v) = Some v
vector_of Spent = None
vector_of Trap = None

-- the fault in which the last step of a slot's process ended, if it counts
abbrev pub fault_of : Counted → ℕ → Out → Option ℕ
fault_of c s o = if counts c s then vector_of o.stop else None

abbrev pub is_at_fault : Counted → Option HeldProcess → Bool
is_at_fault c None = false
is_at_fault c (Some l) = is_some (fault_of c l.slot l.out)

abbrev pub faults : Counted → World → ℕ × Event → World → Bool
faults c w x u = is_step x.1 && is_at_fault c (held_by u x.0)

-- ---- a step that comes out of a range of code, or after which no step can be made

abbrev pub is_within : Range → ℕ → Bool
is_within r eip = nat_le r.first (shown_address eip) && nat_lt (shown_address eip) r.end

abbrev pub stands_within : ℕ → Range → Option HeldProcess → Bool
stands_within s r None = false
stands_within s r (Some l) = ((l.slot == s) && is_within r l.out.image.eip) && not (at_stop l.out)

abbrev pub comes_out : ℕ → Range → World → ℕ × Event → World → Bool
comes_out s r w x u = moves s w x && not (stands_within s r (held_by u x.0))
