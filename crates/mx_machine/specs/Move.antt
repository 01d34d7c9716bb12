-- What each event does to the whole machine (our choice). The crates below define the calls that it makes.
use Rattle.std.specs.Prelude.{ℕ, ◌+◌, nat_lt, nat_le, not, ◌||◌, Bool, true, false, List, [], ◌∷◌, length, Option, Some}
use Rattle.std.specs.Prelude.{None, Result, Ok, Err, slice_get, slice_set, if◌then◌else◌}
use Rattle.mx_image.specs.declared.runs.Stop.{Stop}
use Rattle.mx_image.specs.declared.runs.Stop.TheVariants.{Spent, Trap, Fault}
use Rattle.mx_kcall.specs.Proc.declared.process.Process.{Process}
use Rattle.mx_kcall.specs.Proc.declared.process.State.{State}
use Rattle.mx_kcall.specs.Proc.declared.process.State.TheVariants.{Doomed}
use Rattle.mx_kcall.specs.Proc.declared.process.DeathCause.TheVariants as cause
use Rattle.mx_kcall.specs.Proc.EndpointNumbers.{slot_of, endpoint_from}
use Rattle.mx_kcall.specs.Proc.Endpoints.{is_alive}
use Rattle.mx_kcall.specs.Proc.Queues.{first_ready}
use Rattle.mx_kcall.specs.Proc.States.{is_down, is_out}
use Rattle.mx_kcall.specs.Proc.TableState.{TableState, process_at, with_state, endpoint_of, table_after_dequeue}
use Rattle.mx_kcall.specs.Proc.TableState.{table_after_move_out, table_after_move_home, table_after_steps}
use Rattle.mx_kcall.specs.Queueing.{table_after_queueing}
use Rattle.mx_kcall.specs.TrapAnswer.{TrapAnswer}
use Rattle.mx_kcall.specs.TrapAnswer.TheVariants as trap_ends
use Rattle.mx_kcall.specs.Calls.{table_after_trap, trap_answer}
use Rattle.mx_kcall.specs.Service.{Service}
use Rattle.mx_kcall.specs.Death.{table_after_death}
use Rattle.mx_kcall.specs.Respawn.{is_worn, table_after_respawn}
use Rattle.mx_kcall.specs.Clock.{table_after_line, table_after_tick}
use Rattle.mx_kcall.specs.Refusals.{owner_of}
use Rattle.mx_kcall.specs.Serving.{table_after_kernel_call}
use Rattle.mx_machine.specs.declared.holding.Out.{Out}
use Rattle.mx_machine.specs.declared.events.Event.{Event}
use Rattle.mx_machine.specs.declared.events.Event.TheVariants.{Step, Take, Back, Line, Tick, Kill, Respawn}
use Rattle.mx_machine.specs.declared.events.Refusal.{Refusal}
use Rattle.mx_machine.specs.declared.events.Refusal.TheVariants.{NotDown, Worn, NoService, CpuBusy, CpuEmpty, LogFull}
use Rattle.mx_machine.specs.declared.events.Refusal.TheVariants.{NoLine, NoProcess, AtStop}
use Rattle.mx_machine.specs.declared.events.Answer.{Answer}
use Rattle.mx_machine.specs.declared.events.Answer.TheVariants.{Went, Taken, Returned, Done, Respawned}
use Rattle.mx_machine.specs.Held.{out_after_step, outcome_of_step}
use Rattle.mx_machine.specs.World.{World, HeldProcess, held_by, free_records}

-- ---- kinds of events

-- true of Line, Tick, Kill and Respawn, which every actor may make; false of Step, Take and Back
abbrev pub is_for_all : Event → Bool
is_for_all Step = false
is_for_all Take = false
is_for_all Back = false
is_for_all _ = true

-- ---- refusals

-- LogFull if fewer records are left than an event needs
abbrev pub if_full : ℕ → ℕ → Option Refusal
if_full left needed = if nat_lt left needed then Some LogFull else None

-- the last step was a trap or a fault
abbrev pub is_stop : Stop → Bool
is_stop Spent = false
is_stop Trap = true
is_stop (Fault v) = true

-- the process can make no further step: it trapped, it faulted, or its budget is spent
abbrev pub at_stop : Out → Bool
at_stop o = is_stop o.stop || nat_le o.budget o.count

-- a Step's refusal, by what the processor holds
abbrev pub step_refusal : Option HeldProcess → Option Refusal
step_refusal None = Some CpuEmpty
step_refusal (Some l) = if at_stop l.out then Some AtStop else None

-- a Back's refusal, by what the processor holds. Never LogFull: a record was reserved for this Back
abbrev pub back_refusal : Option HeldProcess → Option Refusal
back_refusal None = Some CpuEmpty
back_refusal (Some l) = None

-- a Take's refusal, by the free records, what the processor holds, and the slot that runs next
abbrev pub take_refusal : {X : Type 0} → ℕ → Option X → Option ℕ → Option Refusal
take_refusal left (Some x) first = Some CpuBusy
take_refusal left None None = Some NoProcess
-- one record for this Take, and one for the Back after it
take_refusal left None (Some s) = if_full left 2

-- a Line's refusal, by how many records are free, and the slot that owns the line
abbrev pub line_refusal : ℕ → Option ℕ → Option Refusal
line_refusal left None = Some NoLine
line_refusal left (Some s) = if_full left 1

-- a Kill's refusal, by how many records are free, and whether a process that is alive has the endpoint
abbrev pub kill_refusal : ℕ → Bool → Option Refusal
kill_refusal left true = if_full left 1
kill_refusal left false = Some NoProcess

-- a Respawn's refusal, by how many records are free, the slot's process, and the slot's service
abbrev pub respawn_refusal : ℕ → Process → Option Service → Option Refusal
respawn_refusal left p None = Some NoService
respawn_refusal left p (Some v) =
    if not (is_down p.state) then Some NotDown else if is_worn p v then Some Worn else if_full left 1

-- THE REFUSAL of actor a's event at world w: the first reason that holds, or none
unfoldable pub event_refusal : World → ℕ → Event → Option Refusal
event_refusal w a Step = step_refusal (held_by w a)
event_refusal w a Take =
    if nat_lt a (length w.cpus) then take_refusal (free_records w) (held_by w a) (first_ready w.table.ready)
    else Some CpuBusy
event_refusal w a Back = back_refusal (held_by w a)
event_refusal w a (Line l) = line_refusal (free_records w) (owner_of w.table l)
event_refusal w a Tick = if_full (free_records w) 1
event_refusal w a (Kill e) = kill_refusal (free_records w) (is_alive w.table e)
event_refusal w a (Respawn s) = respawn_refusal (free_records w) (process_at w.table s) (slice_get w.services s)

-- ---- what the table becomes

-- the process of slot s leaves its ready list, and its image leaves the table
unfoldable pub table_after_sending_out : TableState → ℕ → TableState
table_after_sending_out t s = table_after_move_out (table_after_dequeue t s) s

-- what a processor holds just after a Take: the budget is the ticks that the process has left
abbrev pub held_at_take : TableState → ℕ → HeldProcess
held_at_take t s =
    let p = process_at t s in
    record {
      slot = s;
      out = record { image = p.image; budget = p.schedule.ticks; count = 0; stop = Spent; decoded = tt };
    }

-- killed while on a processor
abbrev pub is_doomed : State → Bool
is_doomed Doomed = true
is_doomed _ = false

-- the table after a trap's SEND, RECEIVE, SENDREC or NOTIFY, or after the kernel call that it asks for
abbrev pub table_after_trap_at_back : TableState → ℕ → TrapAnswer → TableState
table_after_trap_at_back t s trap_ends.Done = table_after_trap t s
table_after_trap_at_back t s trap_ends.Kernel = table_after_kernel_call t s

-- the end of a turn. A doomed process dies, whatever its last step was. Any other process: after a fault it
-- dies; after a trap the call is made that it asks for; else it goes back to a ready list
abbrev pub table_after_end_of_turn : TableState → ℕ → Bool → Stop → TableState
table_after_end_of_turn t s true stop = table_after_death t s cause.Kill
table_after_end_of_turn t s false Spent = table_after_queueing t s
table_after_end_of_turn t s false Trap = table_after_trap_at_back t s (trap_answer t s)
table_after_end_of_turn t s false (Fault v) = table_after_death t s (cause.Fault v)

-- the image is in the table again, and the process's steps are counted there
unfoldable pub table_after_coming_home : TableState → HeldProcess → TableState
table_after_coming_home t l = table_after_steps (table_after_move_home t l.slot l.out.image) l.slot l.out.count

-- A RETURN, which is a Back: the image comes home, and the turn ends
unfoldable pub table_after_back : TableState → HeldProcess → TableState
table_after_back t l =
    table_after_end_of_turn (table_after_coming_home t l) l.slot (is_doomed (process_at t l.slot).state) l.out.stop

-- A KILL of slot s's process: if it is on a processor, it is doomed, and dies at its Back; else it dies now
unfoldable pub table_after_kill : TableState → ℕ → TableState
table_after_kill t s = if is_out (process_at t s).state then with_state t s Doomed else table_after_death t s cause.Kill

-- ---- what the machine becomes (a row with None is of a refused event: nobody uses what it gives)

-- the machine with this table and one more record
abbrev pub world_with_record : World → TableState → World
world_with_record w t = record w { table = t; records = w.records + 1 }

-- the machine in which processor a holds this
abbrev pub with_held : World → ℕ → Option HeldProcess → World
with_held w a held = record w { cpus = slice_set w.cpus a held }

abbrev pub world_after_step : World → ℕ → Option HeldProcess → World
world_after_step w a None = w
world_after_step w a (Some l) = with_held w a (Some (record l { out = out_after_step l.out }))

abbrev pub world_after_take : World → ℕ → Option ℕ → World
world_after_take w a None = w
world_after_take w a (Some s) =
    with_held (world_with_record w (table_after_sending_out w.table s)) a (Some (held_at_take w.table s))

abbrev pub world_after_back : World → ℕ → Option HeldProcess → World
world_after_back w a None = w
world_after_back w a (Some l) = with_held (world_with_record w (table_after_back w.table l)) a None

abbrev pub world_after_line : World → ℕ → Option ℕ → World
world_after_line w l None = w
world_after_line w l (Some s) = world_with_record w (table_after_line w.table l s)

abbrev pub world_after_respawn : World → ℕ → Option Service → World
world_after_respawn w s None = w
world_after_respawn w s (Some v) = world_with_record w (table_after_respawn w.table s v)

-- THE WORLD after actor a's event at world w, if it isn't refused
unfoldable pub world_after_event : World → ℕ → Event → World
world_after_event w a Step = world_after_step w a (held_by w a)
world_after_event w a Take = world_after_take w a (first_ready w.table.ready)
world_after_event w a Back = world_after_back w a (held_by w a)
world_after_event w a (Line l) = world_after_line w l (owner_of w.table l)
world_after_event w a Tick = world_with_record w (table_after_tick w.table)
world_after_event w a (Kill e) = world_with_record w (table_after_kill w.table (slot_of e))
world_after_event w a (Respawn s) = world_after_respawn w s (slice_get w.services s)

-- ---- answers

abbrev pub step_answer : Option HeldProcess → Answer
step_answer None = Done
step_answer (Some l) = Went (outcome_of_step l.out)

abbrev pub take_answer : TableState → Option ℕ → Answer
take_answer t None = Done
take_answer t (Some s) = Taken (endpoint_of t s) (process_at t s).schedule.ticks

abbrev pub back_answer : Option HeldProcess → Answer
back_answer None = Done
back_answer (Some l) = Returned l.out.count

-- THE ANSWER to actor a's event at world w, if it isn't refused. A new process has the next generation
unfoldable pub event_answer : World → ℕ → Event → Answer
event_answer w a Step = step_answer (held_by w a)
event_answer w a Take = take_answer w.table (first_ready w.table.ready)
event_answer w a Back = back_answer (held_by w a)
event_answer w a (Respawn s) = Respawned (endpoint_from ((process_at w.table s).generation + 1) s)
event_answer w a _ = Done

-- ---- events

-- a move with this refusal, or with none
abbrev pub move_by : World → ℕ → Event → Option Refusal → Result Answer Refusal × World
move_by w a e (Some r) = (Err r, w)
move_by w a e None = (Ok (event_answer w a e), world_after_event w a e)

-- MOVE: actor a's event at world w. It gives a refusal and world w again, or an answer and the new world
unfoldable pub move : World → ℕ → Event → Result Answer Refusal × World
move w a e = move_by w a e (event_refusal w a e)

-- MOVES: events in a row. They give each event's answer or refusal, and the world after the last event
abbrev pub moves : World → List (ℕ × Event) → List (Result Answer Refusal) × World
moves w [] = ([], w)
moves w (x ∷ xs) = let m = move w x.0 x.1 in let r = moves m.1 xs in (m.0 ∷ r.0, r.1)
