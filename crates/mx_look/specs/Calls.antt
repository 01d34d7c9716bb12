-- Kernel calls that are made (our own).
use Rattle.std.specs.Prelude.{◌==◌, ◌&&◌, ◌||◌, Bool, false, Option, Some, None, if◌then◌else◌}
use Rattle.mx_proc.specs.EndpointNumbers.{system_endpoint}
use Rattle.mx_look.specs.declared.slot_glances.SlotGlance.{SlotGlance}
use Rattle.mx_look.specs.declared.glance.CpuGlance.{CpuGlance}
use Rattle.mx_look.specs.declared.transition.Transition.{Transition}
use Rattle.mx_look.specs.Doings.{is_ready, is_down}
use Rattle.mx_look.specs.Transition.{slot_in}
use Rattle.mx_look.specs.Going.{acting}

-- SENDREC, call 3, to SYSTEM, -2
abbrev pub asks_kernel : CpuGlance → Bool
asks_kernel h = (h.image.ecx == 3) && (h.image.eax == system_endpoint)

-- the caller is dead, or ready with the result 0
abbrev pub is_served : SlotGlance → Bool
is_served u = is_down u.doing || (is_ready u.doing && (u.image.eax == 0))

abbrev pub is_served_in : Option SlotGlance → Bool
is_served_in None = false
is_served_in (Some u) = is_served u

abbrev pub kernel_call_by : Transition → Option CpuGlance → Option CpuGlance
kernel_call_by x None = None
kernel_call_by x (Some h) = if asks_kernel h && is_served_in (slot_in x.after h.slot) then Some h else None

-- A KERNEL CALL IS MADE
unfoldable pub kernel_call : Transition → Option CpuGlance
kernel_call x = kernel_call_by x (acting x)
