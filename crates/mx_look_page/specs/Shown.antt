-- What the page shows of a world (our own): what each slot's process does, who is ready, and who waits to send.
use Rattle.std.specs.Prelude.{ℕ, ◌==◌, Bool, false, List, map, find, slice_index_or, Option, Some, None, unwrap_or}
use Rattle.std.specs.List.{flat_map, range_with_len}
use Rattle.mx_proc.specs.declared.process.DeathCause.TheVariants as cause
use Rattle.mx_proc.specs.EndpointNumbers.{any_endpoint, system_endpoint, hardware_endpoint, clock_endpoint}
use Rattle.mx_proc.specs.Queues.{list_at}
use Rattle.mx_proc.specs.TableState.{TableState}
use Rattle.mx_print_report.specs.declared.doing.Awaited.{Awaited}
use Rattle.mx_print_report.specs.declared.doing.Awaited.TheVariants as awaited
use Rattle.mx_print_report.specs.declared.doing.Doing.{Doing}
use Rattle.mx_print_report.specs.declared.doing.Doing.TheVariants.{Home, Ready, Out, Doomed, Sending, Calling, Receiving, Awaiting, Down}
use Rattle.mx_look.specs.declared.slot_glances.SlotGlance.{SlotGlance}
use Rattle.mx_look.specs.declared.glance.CpuGlance.{CpuGlance}
use Rattle.mx_look.specs.declared.glance.Glance.{Glance}
use Rattle.mx_look.specs.Transition.{slot_in, cpu_in}
use Rattle.mx_look_page.specs.declared.shown.SlotState.{SlotState}

-- A world as the page shows it: its slots; the ready ones, the next one first; those that wait to send, as they came.
pub record ShownWorld : Type 0 where
  pub slots : List (Option SlotState)
  pub ready : List ℕ
  pub waiting : List ℕ

-- what is shown of a slot
abbrev pub state_in : ShownWorld → ℕ → Option SlotState
state_in w s = slice_index_or w.slots s None

-- ---- slots

abbrev pub holds_by : ℕ → Option CpuGlance → Bool
holds_by s None = false
holds_by s (Some h) = h.slot == s

-- a processor holds the process of a slot
abbrev pub holds : Glance → ℕ → ℕ → Bool
holds g s a = holds_by s (cpu_in g a)

-- the one that does, and 0 if none does
abbrev pub holder_of : Glance → ℕ → Option ℕ
holder_of g s = find (holds g s) (range_with_len 0 8)

abbrev pub processor_of : Glance → ℕ → ℕ
processor_of g s = unwrap_or (holder_of g s) 0

abbrev pub state_number : Doing → ℕ
state_number Ready = 0
state_number Out = 1
state_number Doomed = 2
state_number (Sending e) = 3
state_number (Calling e) = 4
state_number (Receiving p) = 5
state_number (Awaiting e) = 6
state_number (Down cause.Exit) = 7
state_number (Down cause.Kill) = 8
state_number (Down (cause.Fault v)) = 9
state_number Home = 10

abbrev pub awaited_endpoint : Awaited → ℕ
awaited_endpoint awaited.Any = any_endpoint
awaited_endpoint awaited.System = system_endpoint
awaited_endpoint awaited.Hardware = hardware_endpoint
awaited_endpoint awaited.Clock = clock_endpoint
awaited_endpoint (awaited.Process e) = e

-- with whom a process does it: the processor, the partner's endpoint, or the number of the fault
abbrev pub partner_of : Glance → ℕ → Doing → ℕ
partner_of g s Out = processor_of g s
partner_of g s Doomed = processor_of g s
partner_of g s (Sending e) = e
partner_of g s (Calling e) = e
partner_of g s (Awaiting e) = e
partner_of g s (Receiving p) = awaited_endpoint p
partner_of g s (Down (cause.Fault v)) = v
partner_of g s _ = 0

abbrev pub slot_state_by : Glance → ℕ → Option SlotGlance → Option SlotState
slot_state_by g s None = None
slot_state_by g s (Some u) = Some (record {
  endpoint = u.endpoint;
  state = state_number u.doing;
  partner = partner_of g s u.doing;
  level = u.level;
  ticks = u.ticks;
})

abbrev pub slot_state : Glance → ℕ → Option SlotState
slot_state g s = slot_state_by g s (slot_in g s)

unfoldable pub slot_states : Glance → List (Option SlotState)
slot_states g = map (slot_state g) (range_with_len 0 32)

-- ---- queues

-- the ready slots: the lists of the levels, the highest first
unfoldable pub ready_order : TableState → List ℕ
ready_order t = flat_map (list_at t.ready) (range_with_len 0 16)

-- those with a blocked send
abbrev pub waiting_order : TableState → List ℕ
waiting_order t = map (λ (p : ℕ × ℕ). p.0) t.waits

-- A WORLD AS IT IS SHOWN
abbrev pub shown_of : Glance → TableState → ShownWorld
shown_of g t = record { slots = slot_states g; ready = ready_order t; waiting = waiting_order t }
