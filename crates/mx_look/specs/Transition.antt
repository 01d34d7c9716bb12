-- Whom a record is about, and who holds what (our own).
use Rattle.std.specs.Prelude.{ℕ, nat_lt, Option, Some, None, slice_index_or, if◌then◌else◌}
use Rattle.std.specs.Option.{option_map}
use Rattle.mx_machine.specs.declared.history.Recorded.{Recorded}
use Rattle.mx_machine.specs.declared.history.Recorded.TheVariants.{Take, Back, Line, Tick, Kill, Respawn}
use Rattle.mx_look.specs.declared.slot_glances.SlotGlance.{SlotGlance}
use Rattle.mx_proc.specs.EndpointNumbers.{slot_of}
use Rattle.mx_look.specs.declared.glance.CpuGlance.{CpuGlance}
use Rattle.mx_look.specs.declared.faults.FaultGlance.{FaultGlance}
use Rattle.mx_look.specs.declared.glance.Glance.{Glance}
use Rattle.mx_look.specs.declared.transition.Transition.{Transition}

-- a slot, a processor, the fault of its process, the owner of a line
abbrev pub slot_in : Glance → ℕ → Option SlotGlance
slot_in g s = if nat_lt s 32 then slice_index_or g.slots s None else None

abbrev pub cpu_in : Glance → ℕ → Option CpuGlance
cpu_in g a = if nat_lt a 8 then slice_index_or g.cpus a None else None

abbrev pub fault_in : Glance → ℕ → Option FaultGlance
fault_in g a = if nat_lt a 8 then slice_index_or g.faults a None else None

abbrev pub owner_in : Glance → ℕ → Option ℕ
owner_in g l = if nat_lt l 16 then slice_index_or g.owners l None else None

-- what the actor holds before the event, and after it
abbrev pub held_before : Transition → Option CpuGlance
held_before x = cpu_in x.before x.actor

abbrev pub held_after : Transition → Option CpuGlance
held_after x = cpu_in x.after x.actor

abbrev pub slot_held : Option CpuGlance → Option ℕ
slot_held held = option_map (λ (h : CpuGlance). h.slot) held

abbrev pub about_by : Transition → Recorded → Option ℕ
about_by x Take = slot_held (held_after x)
about_by x (Back n) = slot_held (held_before x)
about_by x (Line l) = owner_in x.before l
about_by x Tick = None
about_by x (Kill e) = Some (slot_of e)
about_by x (Respawn s) = Some s

-- WHOM A RECORD IS ABOUT
unfoldable pub about : Transition → Option ℕ
about x = about_by x x.event
