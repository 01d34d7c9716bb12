-- A table as plain lists (proc.c), and the changes that it is made of.
use Rattle.std.specs.Prelude.{ℕ, ◌<◌, ◌+◌, ◌-◌, ◌++◌, ◌∷◌, Bool, false, List, [], Option, Some, None}
use Rattle.std.specs.Prelude.{slice_index_or, slice_set, length, replicate, take, drop}
use Rattle.std.specs.Option.{option_map}
use Rattle.circular_buffer.specs.Buffer.{keep_last}
use Rattle.mx_exec.specs.declared.image.Image.{Image}
use Rattle.mx_exec.specs.Image.{blank}
use Rattle.mx_mem.specs.Segment.{with_bytes_at}
use Rattle.mx_proc.specs.declared.process.Process.{Process}
use Rattle.mx_proc.specs.declared.process.Terms.{Terms}
use Rattle.mx_proc.specs.declared.process.State.{State}
use Rattle.mx_proc.specs.declared.process.State.TheVariants.{Home, Ready, Out, Down}
use Rattle.mx_proc.specs.declared.process.DeathCause.TheVariants.{Exit}
use Rattle.mx_proc.specs.declared.process.Partner.{Partner}
use Rattle.mx_proc.specs.declared.process.Source.{Source}
use Rattle.mx_proc.specs.declared.process.Source.TheVariants.{Hardware, Clock, Slot}
use Rattle.mx_proc.specs.declared.deliveries.Delivery.{Delivery}
use Rattle.mx_proc.specs.declared.deliveries.DeliveryKind.{DeliveryKind}
use Rattle.mx_proc.specs.declared.deliveries.DeliveryKind.TheVariants.{Message, Notification}
use Rattle.mx_proc.specs.declared.devices.Devices.{Devices}
use Rattle.mx_proc.specs.declared.windows.Window.{Window}
use Rattle.mx_proc.specs.declared.windows.Rules.{Rules}
use Rattle.mx_proc.specs.Devices.{no_devices}
use Rattle.mx_proc.specs.EndpointNumbers.{endpoint_from, hardware_endpoint, clock_endpoint}
use Rattle.mx_proc.specs.Messages.{with_source, type_of, notification}
use Rattle.mx_proc.specs.Partners.{order_of_source, source_in_order, lines_in_notification, first_pending}
use Rattle.mx_proc.specs.Queues.{list_at, without}
use Rattle.mx_proc.specs.Schedules.{first_schedule, no_schedule, renewed_schedule, spent_schedule}
use Rattle.mx_proc.specs.Waits.{without_from}

-- What a table holds.
pub record TableState : Type 0 where
  pub slots : List Process
  -- the sixteen ready lists
  pub ready : List (List ℕ)
  -- the blocked sends, from and to, in order of blocking
  pub waits : List (ℕ × ℕ)
  -- whose quantum was renewed last
  pub renewed : Option ℕ
  pub uptime : ℕ
  pub devices : Devices
  pub deliveries : List Delivery
  -- by which it copies between processes
  pub rules : Rules

-- a table as it is made
abbrev pub empty_table : Rules → TableState
empty_table rules =
    record {
      slots = [];
      ready = replicate 16 [];
      waits = [];
      renewed = None;
      uptime = 0;
      devices = no_devices;
      deliveries = [];
      rules = rules;
    }

-- the process of an index past the table
abbrev pub nobody : Process
nobody = record {
  state = Down Exit;
  generation = 0;
  restarts_used = 0;
  schedule = no_schedule;
  steps = 0;
  pending = replicate 34 false;
  lines = 0;
  alarm = None;
  windows = replicate 32 None;
  image = blank;
}

-- ---- one slot

abbrev pub process_at : TableState → ℕ → Process
process_at w s = slice_index_or w.slots s nobody

abbrev pub with_process : TableState → ℕ → Process → TableState
with_process w s p = record w { slots = slice_set w.slots s p }

abbrev pub with_state : TableState → ℕ → State → TableState
with_state w s state = with_process w s (record (process_at w s) { state = state })

-- EAX, which has the result of a trap
abbrev pub with_result : TableState → ℕ → ℕ → TableState
with_result w s r =
    let p = process_at w s in
    with_process w s (record p { image = record p.image { regs = record p.image.regs { eax = r } } })

-- EBX, the address of the buffer for messages
abbrev pub buffer_at : TableState → ℕ → ℕ
buffer_at w s = (process_at w s).image.regs.ebx

abbrev pub memory_at : TableState → ℕ → List ℕ
memory_at w s = (process_at w s).image.memory

abbrev pub with_memory : TableState → ℕ → List ℕ → TableState
with_memory w s bytes =
    let p = process_at w s in with_process w s (record p { image = record p.image { memory = bytes } })

abbrev pub with_pending : TableState → ℕ → ℕ → Bool → TableState
with_pending w s place bit =
    let p = process_at w s in with_process w s (record p { pending = slice_set p.pending place bit })

-- what the process of one slot (the second) may use of another's memory
abbrev pub window_of : TableState → ℕ → ℕ → Option Window
window_of w s t = slice_index_or (process_at w s).windows t None

-- the endpoint of the process in a slot
abbrev pub endpoint_of : TableState → ℕ → ℕ
endpoint_of w s = endpoint_from (process_at w s).generation s

-- ---- queues

-- a process is ready, at the front of the list of its level
abbrev pub table_with_first : TableState → ℕ → TableState
table_with_first w s = let p = process_at w s in record w {
  slots = slice_set w.slots s (record p { state = Ready });
  ready = slice_set w.ready p.schedule.level (s ∷ list_at w.ready p.schedule.level);
}

-- a process that is ready with a new quantum, in the list nearest to a level
abbrev pub renewed : ℕ → Process → Process
renewed level p = record p { state = Ready; schedule = renewed_schedule level p.schedule }

-- a process is renewed, at the end of the list of its level
abbrev pub table_with_last : TableState → ℕ → ℕ → TableState
table_with_last w s level = let p = renewed level (process_at w s) in record w {
  slots = slice_set w.slots s p;
  ready = slice_set w.ready p.schedule.level (list_at w.ready p.schedule.level ++ s ∷ []);
  renewed = Some s;
}

-- a process leaves the list of its level
abbrev pub table_after_dequeue : TableState → ℕ → TableState
table_after_dequeue w s =
    let level =
    (process_at w s).schedule.level in
    record (with_state w s Home) { ready = slice_set w.ready level (without s (list_at w.ready level)) }

-- a send is blocked, after the others
abbrev pub table_after_block : TableState → ℕ → ℕ → State → TableState
table_after_block w s d state = record (with_state w s state) { waits = w.waits ++ (s, d) ∷ [] }

-- a send is blocked no more
abbrev pub table_after_unblock : TableState → ℕ → TableState
table_after_unblock w s = record (with_state w s Home) { waits = without_from s w.waits }

-- ---- messages

-- bytes come to the buffer of a process
abbrev pub with_message : TableState → ℕ → List ℕ → TableState
with_message w s bytes = with_memory w s (with_bytes_at (memory_at w s) (buffer_at w s) bytes)

-- a delivery is recorded, and the oldest past 1,024 goes
abbrev pub with_delivery_kept : TableState → ℕ → ℕ → ℕ → DeliveryKind → TableState
with_delivery_kept w from to message_type kind =
    record w {
      deliveries = keep_last 1024
          (w.deliveries ++ record { from = from; to = to; message_type = message_type; kind = kind } ∷ []);
    }

-- the 36 bytes at the buffer of a process, with the source written by the kernel
abbrev pub message_of : TableState → ℕ → List ℕ
message_of w s = with_source (endpoint_of w s) (take 36 (drop (buffer_at w s) (memory_at w s)))

-- the message of one process comes to another
unfoldable pub table_after_delivery : TableState → ℕ → ℕ → TableState
table_after_delivery w from to =
    let message =
    message_of w from in
    with_delivery_kept (with_message w to message) (endpoint_of w from) (endpoint_of w to) (type_of message) Message

-- the endpoint of a source of notifications
abbrev pub source_endpoint : TableState → Source → ℕ
source_endpoint w Hardware = hardware_endpoint
source_endpoint w Clock = clock_endpoint
source_endpoint w (Slot s) = endpoint_of w s

-- a source that is a slot is one that is used
abbrev pub IsUsedSource : TableState → Source → Type 0
IsUsedSource w (Slot s) = s < length w.slots
IsUsedSource w _ = Unit {0}

-- the first source, in their order, that has a pending bit at a slot and that the partner may be
abbrev pub pending_source : TableState → ℕ → Partner → Option Source
pending_source w s partner =
    option_map source_in_order (first_pending partner 0 (take (2 + length w.slots) (process_at w s).pending))

-- a process whose pending bit, and the lines that are reported, are cleared
abbrev pub without_pending : Process → Source → Process
without_pending p source =
    record p {
      pending = slice_set p.pending (order_of_source source) false;
      lines = p.lines - lines_in_notification source p.lines;
    }

-- a notification comes to a process, and its pending bit is cleared
unfoldable pub table_after_notice : TableState → ℕ → Source → TableState
table_after_notice w d source =
    let p = process_at w d in
    let bytes = notification (source_endpoint w source) w.uptime (lines_in_notification source p.lines) in
    with_delivery_kept (with_message (with_process w d (without_pending p source)) d bytes) (source_endpoint w source)
    (endpoint_of w d) 4096 Notification

-- ---- images out and home

-- the image of a process is moved out
abbrev pub table_after_move_out : TableState → ℕ → TableState
table_after_move_out w s = with_process w s (record (process_at w s) { state = Out; image = blank })

-- an image is home again
abbrev pub table_after_move_home : TableState → ℕ → Image → TableState
table_after_move_home w s image = with_process w s (record (process_at w s) { state = Home; image = image })

-- a process after n steps more
abbrev pub stepped : ℕ → Process → Process
stepped n p = record p { schedule = spent_schedule n p.schedule; steps = p.steps + n }

-- n steps were made
abbrev pub table_after_steps : TableState → ℕ → ℕ → TableState
table_after_steps w s n = with_process w s (stepped n (process_at w s))

-- a slot has another image
abbrev pub with_image : TableState → ℕ → Image → TableState
with_image w s image = with_process w s (record (process_at w s) { image = image })

-- ---- new processes

-- a process as it begins: ready, with a full quantum
abbrev pub new_process : Image → Terms → Process
new_process image terms = record nobody { state = Ready; schedule = first_schedule terms; image = image }

-- the process after a dead one: nothing of that is left but its generation and its restarts, each one more
abbrev pub process_after : Process → Image → Terms → Process
process_after dead image terms =
    record (new_process image terms) { generation = dead.generation + 1; restarts_used = dead.restarts_used + 1 }

-- one slot more, at the end of the list of its level
abbrev pub table_after_add : TableState → Image → Terms → TableState
table_after_add w image terms = record w {
  slots = w.slots ++ new_process image terms ∷ [];
  ready = slice_set w.ready terms.level (list_at w.ready terms.level ++ length w.slots ∷ []);
}

-- a slot has another process, which is ready, at the end of the list of its level
abbrev pub table_after_revival : TableState → ℕ → Process → TableState
table_after_revival w s p = record w {
  slots = slice_set w.slots s p;
  ready = slice_set w.ready p.schedule.level (list_at w.ready p.schedule.level ++ s ∷ []);
}
