-- The current state of a kernel: of a process that is out it knows slot and budget.
use Rattle.std.specs.Prelude.{◌≡◌, ◌<◌, ◌≤◌, ℕ, ◌+◌, ◌-◌, ◌^◌, true, false, nat_lt, if◌then◌else◌, List, map, length}
use Rattle.std.specs.Prelude.{replicate, Option, Some, None, Result, Ok, Err, slice_get, slice_set}
use Rattle.mx_ipc.specs.Proc.declared.windows.Rules.{Rules}
use Rattle.mx_ipc.specs.Proc.EndpointNumbers.{slot_of, endpoint_from}
use Rattle.mx_ipc.specs.Proc.Endpoints.{is_alive}
use Rattle.mx_ipc.specs.Proc.Queues.{first_ready}
use Rattle.mx_ipc.specs.Proc.States.{is_ready, is_down}
use Rattle.mx_ipc.specs.Proc.TableState.{TableState, process_at}
use Rattle.mx_machine.specs.Service.{Service}
use Rattle.mx_machine.specs.Respawn.{is_worn, table_after_respawn}
use Rattle.mx_machine.specs.Clock.{table_after_line, table_after_tick}
use Rattle.mx_machine.specs.CallRefusals.{owner_of}
use Rattle.mx_machine.specs.declared.events.Answer.{Answer}
use Rattle.mx_machine.specs.declared.events.Answer.TheVariants.{Done, Respawned}
use Rattle.mx_machine.specs.declared.events.Event.{Event}
use Rattle.mx_machine.specs.declared.events.Event.TheVariants.{Step, Take, Back, Line, Tick, Kill, Respawn}
use Rattle.mx_machine.specs.declared.events.Refusal.{Refusal}
use Rattle.mx_machine.specs.declared.events.Refusal.TheVariants.{CpuBusy}
use Rattle.mx_machine.specs.declared.history.Recorded.{Recorded}
use Rattle.mx_machine.specs.declared.history.Recorded.TheVariants as recorded
use Rattle.mx_machine.specs.declared.holding.Lease.{Lease}
use Rattle.mx_machine.specs.declared.holding.Out.{Out}
use Rattle.mx_machine.specs.Boot.{first_table}
use Rattle.mx_machine.specs.History.{number_of_record}
pub use Rattle.mx_machine.specs.Move.{is_for_all}
use Rattle.mx_machine.specs.Move.{if_full, line_refusal, kill_refusal, respawn_refusal, take_refusal}
use Rattle.mx_machine.specs.Move.{table_after_sending_out, table_after_back, table_after_kill, held_at_take}
use Rattle.mx_machine.specs.Sound.{lease_of, lease_at}
use Rattle.mx_machine.specs.World.{World, out_count}

pub record KernelState : Type 0 where
  pub table : TableState
  pub leases : List (Option Lease)
  pub others : ℕ
  pub services : List Service
  pub records : ℕ
  pub capacity : ℕ

-- the state at boot
abbrev pub kernel_state_at_boot : Rules → List Service → ℕ → ℕ → ℕ → KernelState
kernel_state_at_boot rules services cpus others capacity =
    record {
      table = first_table rules services;
      leases = replicate cpus None;
      others = others;
      services = services;
      records = 0;
      capacity = capacity;
    }

-- what a kernel knows of a machine
abbrev pub kernel_state_of : World → KernelState
kernel_state_of w =
    record {
      table = w.table;
      leases = map lease_of w.cpus;
      others = w.others;
      services = w.services;
      records = w.records;
      capacity = w.capacity;
    }

abbrev pub records_left : KernelState → ℕ
records_left d = d.capacity - (d.records + out_count d.leases)

-- one record more, and another table
abbrev pub state_with_record : KernelState → TableState → KernelState
state_with_record d t = record d { table = t; records = d.records + 1 }

abbrev pub with_lease : KernelState → ℕ → Option Lease → KernelState
with_lease d a x = record d { leases = slice_set d.leases a x }

-- ---- a processor's events

abbrev pub refusal_to_take : KernelState → ℕ → Option Refusal
refusal_to_take d a =
    if nat_lt a (length d.leases) then take_refusal (records_left d) (lease_at d.leases a) (first_ready d.table.ready)
    else Some CpuBusy

-- a slot's process is taken by a processor
abbrev pub state_after_take : KernelState → ℕ → ℕ → KernelState
state_after_take d a s =
    with_lease (state_with_record d (table_after_sending_out d.table s)) a
    (Some (record { slot = s; budget = (process_at d.table s).schedule.ticks }))

-- It was accepted that a processor takes a process.
pub record HasTaken (d n : KernelState) (a s : ℕ) (o : Out) : Type 0 where
  pub accepted : refusal_to_take d a ≡ None
  pub processor : a < length d.leases
  pub first : first_ready d.table.ready ≡ Some s
  pub ready : is_ready (process_at d.table s).state ≡ true
  pub out : o ≡ (held_at_take d.table s).out
  pub after : n ≡ state_after_take d a s

-- what a kernel answers a processor that asks for a process
abbrev pub AnswersTake : KernelState → KernelState → ℕ → Result Out Refusal → Type 0
AnswersTake d n a (Ok o) = (s : ℕ) × HasTaken d n a s o
AnswersTake d n a (Err r) = (refusal_to_take d a ≡ Some r) × (n ≡ d)

-- it comes back
abbrev pub state_after_back : KernelState → ℕ → ℕ → Out → KernelState
state_after_back d a s o =
    with_lease (state_with_record d (table_after_back d.table (record { slot = s; out = o }))) a None

-- ---- the events that any actor may do

abbrev pub refusal_to : KernelState → Event → Option Refusal
refusal_to d (Line l) = line_refusal (records_left d) (owner_of d.table l)
refusal_to d Tick = if_full (records_left d) 1
refusal_to d (Kill e) = kill_refusal (records_left d) (is_alive d.table e)
refusal_to d (Respawn s) = respawn_refusal (records_left d) (process_at d.table s) (slice_get d.services s)
refusal_to d _ = None

abbrev pub table_after_line_by : TableState → ℕ → Option ℕ → TableState
table_after_line_by t l None = t
table_after_line_by t l (Some s) = table_after_line t l s

abbrev pub table_after_respawn_by : TableState → ℕ → Option Service → TableState
table_after_respawn_by t s None = t
table_after_respawn_by t s (Some v) = table_after_respawn t s v

abbrev pub table_after : KernelState → Event → TableState
table_after d (Line l) = table_after_line_by d.table l (owner_of d.table l)
table_after d Tick = table_after_tick d.table
table_after d (Kill e) = table_after_kill d.table (slot_of e)
table_after d (Respawn s) = table_after_respawn_by d.table s (slice_get d.services s)
table_after d _ = d.table

abbrev pub answer_to : KernelState → Event → Answer
answer_to d (Respawn s) = Respawned (endpoint_from ((process_at d.table s).generation + 1) s)
answer_to d _ = Done

-- the shortest record in which an event is made: a step is part of a return
abbrev pub recorded_as : Event → Recorded
recorded_as Step = recorded.Back 1
recorded_as Take = recorded.Take
recorded_as Back = recorded.Back 0
recorded_as (Line l) = recorded.Line l
recorded_as Tick = recorded.Tick
recorded_as (Kill e) = recorded.Kill e
recorded_as (Respawn s) = recorded.Respawn s

-- Such an event was accepted.
pub record HasAccepted (d n : KernelState) (e : Event) (x : Answer) : Type 0 where
  pub accepted : refusal_to d e ≡ None
  pub answer : x ≡ answer_to d e
  pub after : n ≡ state_with_record d (table_after d e)
  pub number : number_of_record (recorded_as e) < 2 ^ 31

-- A slot may get a new process, which has this endpoint.
pub record MayRespawn (d : KernelState) (s e : ℕ) : Type 0 where
  pub accepted : refusal_to d (Respawn s) ≡ None
  pub used : s < length d.table.slots
  pub small : s < 32
  pub down : is_down (process_at d.table s).state ≡ true
  pub fresh : (v : Service) → slice_get d.services s ≡ Some v → is_worn (process_at d.table s) v ≡ false
  pub room : 1 ≤ records_left d
  pub endpoint : e ≡ endpoint_from ((process_at d.table s).generation + 1) s

abbrev pub AnswersEvent : KernelState → KernelState → Event → Result Answer Refusal → Type 0
AnswersEvent d n e (Ok x) = HasAccepted d n e x
AnswersEvent d n e (Err r) = (refusal_to d e ≡ Some r) × (n ≡ d)
