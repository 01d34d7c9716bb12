-- What a move halts at (our own).
use Rattle.std.specs.Prelude.{◌≡◌, ℕ, ◌==◌, ◌||◌, Bool, if◌then◌else◌, Option, Some, None, map, slice_get}
use Rattle.mx_machine.specs.declared.events.Event.{Event}
use Rattle.mx_machine.specs.declared.history.Record.{Record}
use Rattle.mx_machine.specs.World.{World, HeldProcess, held_by}
use Rattle.mx_walk.specs.Walks.{Walk, world_here}
use Rattle.mx_app_look.specs.Changes.{as_seen, first_change}
use Rattle.mx_app_look.specs.Marks.{changes_watched}
use Rattle.mx_app_look.specs.declared.changes.Seen.{Seen}
use Rattle.mx_app_look.specs.declared.watches.Watch.{Watch}
use Rattle.mx_app_gdb.specs.declared.halts.Halted.{Halted}
use Rattle.mx_app_gdb.specs.declared.halts.Halted.TheVariants.{Changed, Fault}
use Rattle.mx_app_gdb.specs.declared.halts.Halts.{Halts}
use Rattle.mx_app_gdb.specs.declared.threads.Counted.{Counted}
use Rattle.mx_app_gdb.specs.Marks.{fault_of, faults}

-- ---- a fault right before a position

abbrev pub fault_at : ℕ → Option ℕ → Option Halted
fault_at s None = None
fault_at s (Some v) = Some (Fault s v)

abbrev pub fault_held : Counted → Option HeldProcess → Option Halted
fault_held c None = None
fault_held c (Some l) = fault_at l.slot (fault_of c l.slot l.out)

abbrev pub fault_by : Counted → World → Option Record → Option Halted
fault_by c w None = None
fault_by c w (Some x) = fault_held c (held_by w x.actor)

-- within a record, whose actor makes its steps
abbrev pub fault_here : Counted → Walk → Option Halted
fault_here c k =
    if k.here.steps == 0 then None else fault_by c (world_here k) (slice_get k.records k.here.records)

-- ---- WHY A MOVE HALTS right after an event, if it does: watched bytes are other ones than where it began; or the
-- event is a step that ends in a fault

abbrev pub halted_by : Option Watch → Option Halted → Option Halted
halted_by (Some x) fault = Some (Changed x)
halted_by None fault = fault

abbrev pub halted_here : Walk → Halts → Option Halted
halted_here k h = halted_by (first_change (world_here k) (map as_seen h.seen.items)) (fault_here h.counted k)

-- up to here the watched bytes are as they were where the move began
pub record IsUnchanged (k : Walk) (h : Halts) : Type 0 where
  pub watched : map (λ (s : Seen). s.watch) h.seen.items ≡ h.points.watches
  pub same : first_change (world_here k) (map as_seen h.seen.items) ≡ None

-- an event after which a move halts
abbrev pub halts_after : Halts → World → ℕ × Event → World → Bool
halts_after h w x u = changes_watched h.points w x u || faults h.counted w x u
