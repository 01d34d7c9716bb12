-- What each event writes to the console: a byte at most, and only a return does.
use Rattle.std.proofs.Common.{◌≡◌, ◌∙◌, ℕ, ◌%◌, ◌+◌, ◌++◌, ◌≤◌, nat_lt, Bool, true, false, cond, List, [], ◌∷◌, length, Option, Some, None, slice_get, refl, arith}
use Rattle.circular_buffer.specs.Buffer.{keep_last}
use Rattle.mx_image.specs.declared.runs.Stop.{Stop}
use Rattle.mx_image.specs.declared.runs.Stop.TheVariants.{Spent, Trap, Fault}
use Rattle.mx_proc.specs.declared.process.DeathCause.{DeathCause}
use Rattle.mx_proc.specs.declared.process.DeathCause.TheVariants as cause
use Rattle.mx_proc.specs.declared.process.State.{State}
use Rattle.mx_proc.specs.declared.process.State.TheVariants.{Home, Ready, Out, Doomed, Sending, Calling, Receiving, Awaiting, Down}
use Rattle.mx_proc.specs.declared.process.Source.{Source}
use Rattle.mx_proc.specs.declared.process.Source.TheVariants as source
use Rattle.mx_proc.specs.declared.process.Partner.{Partner}
use Rattle.mx_proc.specs.declared.process.Partner.TheVariants as partner
use Rattle.mx_proc.specs.declared.errors.Errno.{Errno}
use Rattle.mx_proc.specs.declared.errors.Errno.TheVariants.{Denied, Dead}
use Rattle.mx_proc.specs.Console.{ConsoleState}
use Rattle.mx_proc.specs.Errors.{errno_bits}
use Rattle.mx_proc.specs.Queues.{first_ready}
use Rattle.mx_proc.specs.Serving.{with_alarm, with_line, with_tick}
use Rattle.mx_proc.specs.States.{is_out, is_ready, is_sending}
use Rattle.mx_proc.specs.Waits.{caller_of}
use Rattle.mx_proc.specs.TableState.{TableState, pending_source, process_at, table_after_delivery, table_after_notice, table_after_unblock, with_message, with_result}
use Rattle.mx_ipc.specs.declared.trap_calls.Call.{Call}
use Rattle.mx_ipc.specs.declared.trap_calls.Call.TheVariants as call
use Rattle.mx_ipc.specs.declared.trap_calls.Party.{Party}
use Rattle.mx_ipc.specs.declared.trap_calls.Party.TheVariants.{Any, Hardware, Clock, System, Process as Named}
use Rattle.mx_ipc.specs.Checks.{call_of, call_refusal, party_of}
use Rattle.mx_kcall.specs.declared.request.KernelCall.{KernelCall}
use Rattle.mx_kcall.specs.declared.request.ReplyWords.{ReplyWords}
use Rattle.mx_kcall.specs.Calls.{goes_on, partner_of, table_after_call, table_after_call_by, table_after_checked_call, table_after_notifying, table_after_receive, table_after_receive_by, table_after_release, table_after_send, table_after_sendrec, table_after_taking, table_after_taking_from, table_after_trap, table_after_trap_by, trap_answer}
use Rattle.mx_kcall.specs.Clock.{due_slots, table_after_ring, table_after_rings, table_after_tick}
use Rattle.mx_kcall.specs.Death.{table_after_death, table_after_freeing, table_after_freeing_all, table_after_taking_out, waiting_for}
use Rattle.mx_kcall.specs.Queueing.{table_after_queueing}
use Rattle.mx_kcall.specs.Refusals.{kernel_call_refusal, owner_of}
use Rattle.mx_kcall.specs.Requests.{kernel_call_under, message_words_at, no_reply_words, reply_bytes}
use Rattle.mx_kcall.specs.Respawn.{table_after_respawn}
use Rattle.mx_kcall.specs.Service.{Service}
use Rattle.mx_kcall.specs.Effects.{Effect, table_after_effect}
use Rattle.mx_kcall.specs.Effects.Effect.{Nothing, SetsAlarm, SetsOwner, WritesConsole, SetsRegister, Copies, Kills, SetsWindow}
use Rattle.mx_kcall.specs.Known.{known}
use Rattle.mx_kcall.specs.Serving.{effect_of, ends_caller, table_after_change, table_after_kernel_call, table_after_kernel_call_by, table_after_reply, table_after_serving, words_of_reply}
use Rattle.mx_kcall.specs.TrapAnswer.{TrapAnswer}
use Rattle.mx_kcall.specs.TrapAnswer.TheVariants as trap_ends
use Rattle.mx_machine.specs.declared.events.Event.{Event}
use Rattle.mx_machine.specs.declared.events.Event.TheVariants.{Step, Take, Back, Line, Tick, Kill, Respawn}
use Rattle.mx_machine.specs.Move.{is_doomed, table_after_back, table_after_coming_home, table_after_end_of_turn, table_after_kill, table_after_sending_out, table_after_trap_at_back, world_after_back, world_after_event, world_after_line, world_after_respawn, world_after_step, world_after_take}
use Rattle.mx_machine.specs.World.{World, HeldProcess, held_by}

abbrev Keep : TableState → TableState → Type 0
Keep w v = v.devices.console ≡ w.devices.console

by_case : (w : TableState) (b : Bool) (x y : TableState) → Keep w x → Keep w y → Keep w (cond b x y)
by_case w true x y e f = e
by_case w false x y e f = f

-- ---- calls

queueing_keeps : (w : TableState) (s : ℕ) → Keep w (table_after_queueing w s)
unfolding table_after_queueing
queueing_keeps w s = by_case w (nat_lt 0 (process_at w s).schedule.ticks) _ _ refl refl

goes_on_keeps : (w : TableState) (s n : ℕ) → Keep w (goes_on w s n)
unfolding goes_on
goes_on_keeps w s n = queueing_keeps (with_result w s n) s

delivery_keeps : (w : TableState) (from to : ℕ) → Keep w (table_after_delivery w from to)
unfolding table_after_delivery
delivery_keeps w from to = refl

notice_keeps : (w : TableState) (d : ℕ) (x : Source) → Keep w (table_after_notice w d x)
unfolding table_after_notice
notice_keeps w d x = refl

delivered_keeps : (w : TableState) (s d : ℕ) → Keep w (goes_on (table_after_delivery w s d) d 0)
delivered_keeps w s d = goes_on_keeps (table_after_delivery w s d) d 0 ∙ delivery_keeps w s d

send_keeps : (w : TableState) (s d : ℕ) → Keep w (table_after_send w s d)
unfolding table_after_send
send_keeps w s d = by_case w _ _ _ (goes_on_keeps (goes_on (table_after_delivery w s d) d 0) s 0 ∙ delivered_keeps w s d) refl

release_keeps : (w : TableState) (s p : ℕ) (st : State) → Keep w (table_after_release w s p st)
unfolding table_after_release
release_keeps w s p Calling = refl
release_keeps w s p Home = goes_on_keeps (table_after_unblock w p) p 0
release_keeps w s p Ready = goes_on_keeps (table_after_unblock w p) p 0
release_keeps w s p Out = goes_on_keeps (table_after_unblock w p) p 0
release_keeps w s p Doomed = goes_on_keeps (table_after_unblock w p) p 0
release_keeps w s p Sending = goes_on_keeps (table_after_unblock w p) p 0
release_keeps w s p (Receiving x) = goes_on_keeps (table_after_unblock w p) p 0
release_keeps w s p (Awaiting x) = goes_on_keeps (table_after_unblock w p) p 0
release_keeps w s p (Down x) = goes_on_keeps (table_after_unblock w p) p 0

taking_from_keeps : (w : TableState) (s : ℕ) (st : State) (p : Option ℕ) → Keep w (table_after_taking_from w s st p)
taking_from_keeps w s st None = refl
taking_from_keeps w s st (Some p) =
    let given = table_after_delivery w p s in
    goes_on_keeps (table_after_release given s p (process_at w p).state) s 0 ∙ release_keeps given s p (process_at w p).state ∙ delivery_keeps w p s

taking_keeps : (w : TableState) (s : ℕ) (p : Partner) (st : State) → Keep w (table_after_taking w s p st)
unfolding table_after_taking
taking_keeps w s p st = taking_from_keeps w s st (caller_of s p w.waits)

receive_by_keeps : (w : TableState) (s : ℕ) (p : Partner) (x : Option Source) → Keep w (table_after_receive_by w s p x)
receive_by_keeps w s p None = taking_keeps w s p (Receiving p)
receive_by_keeps w s p (Some x) = goes_on_keeps (table_after_notice w s x) s 0 ∙ notice_keeps w s x

receive_keeps : (w : TableState) (s : ℕ) (p : Partner) → Keep w (table_after_receive w s p)
unfolding table_after_receive
receive_keeps w s p = receive_by_keeps w s p (pending_source w s p)

sendrec_keeps : (w : TableState) (s d : ℕ) → Keep w (table_after_sendrec w s d)
unfolding table_after_sendrec
sendrec_keeps w s d = by_case w _ _ _ (taking_keeps (goes_on (table_after_delivery w s d) d 0) s (partner.Only (source.Slot d)) (Awaiting d) ∙ delivered_keeps w s d) refl

notifying_keeps : (w : TableState) (x : Source) (d : ℕ) → Keep w (table_after_notifying w x d)
unfolding table_after_notifying
notifying_keeps w x d = by_case w _ _ _ (goes_on_keeps (table_after_notice w d x) d 0 ∙ notice_keeps w d x) refl

checked_call_keeps : (w : TableState) (s : ℕ) (c : Call) (x : Party) → Keep w (table_after_checked_call w s c x)
checked_call_keeps w s call.Send Any = refl
checked_call_keeps w s call.Send Hardware = refl
checked_call_keeps w s call.Send Clock = refl
checked_call_keeps w s call.Send System = refl
checked_call_keeps w s call.Send (Named d g) = send_keeps w s d
checked_call_keeps w s call.Receive x = receive_keeps w s (partner_of x)
checked_call_keeps w s call.Sendrec Any = refl
checked_call_keeps w s call.Sendrec Hardware = refl
checked_call_keeps w s call.Sendrec Clock = refl
checked_call_keeps w s call.Sendrec System = refl
checked_call_keeps w s call.Sendrec (Named d g) = sendrec_keeps w s d
checked_call_keeps w s call.Notify Any = refl
checked_call_keeps w s call.Notify Hardware = refl
checked_call_keeps w s call.Notify Clock = refl
checked_call_keeps w s call.Notify System = refl
checked_call_keeps w s call.Notify (Named d g) = goes_on_keeps (table_after_notifying w (source.Slot s) d) s 0 ∙ notifying_keeps w (source.Slot s) d

call_by_keeps : (w : TableState) (s : ℕ) (c : Call) (x : Option Party) (e : Option Errno) → Keep w (table_after_call_by w s c x e)
call_by_keeps w s c x (Some e) = goes_on_keeps w s (errno_bits e)
call_by_keeps w s c None None = refl
call_by_keeps w s c (Some x) None = checked_call_keeps w s c x

trap_by_keeps : (w : TableState) (s : ℕ) (c : Option Call) (n : ℕ) → Keep w (table_after_trap_by w s c n)
unfolding table_after_call
trap_by_keeps w s None n = goes_on_keeps w s (errno_bits Denied)
trap_by_keeps w s (Some c) n = call_by_keeps w s c (party_of w n) (call_refusal w s c (party_of w n))

-- ---- deaths

taking_out_keeps : (w : TableState) (s : ℕ) → Keep w (table_after_taking_out w s)
unfolding table_after_taking_out
taking_out_keeps w s = by_case w (is_ready (process_at w s).state) _ _ refl (by_case w (is_sending (process_at w s).state) _ _ refl refl)

freeing_keeps : (ps : List ℕ) (w : TableState) → Keep w (table_after_freeing_all w ps)
freeing_keeps [] w = refl
freeing_keeps (p ∷ ps) w = freeing_keeps ps (table_after_freeing w p) ∙ goes_on_keeps (table_after_taking_out w p) p (errno_bits Dead) ∙ taking_out_keeps w p

death_keeps : (w : TableState) (s : ℕ) (c : DeathCause) → Keep w (table_after_death w s c)
unfolding table_after_death
death_keeps w s c = freeing_keeps (waiting_for (table_after_taking_out w s) s) (table_after_taking_out w s) ∙ taking_out_keeps w s

-- ---- kernel calls

-- a console with bytes more
abbrev pub with_byte : ConsoleState → ℕ → ConsoleState
with_byte c b = record { kept = keep_last 4096 (c.kept ++ b ∷ []); count = c.count + 1 }

abbrev pub pushed : ConsoleState → List ℕ → ConsoleState
pushed c [] = c
pushed c (b ∷ bs) = pushed (with_byte c b) bs

-- one byte more is written, or none
abbrev Writes : TableState → TableState → Type 0
Writes w v = (bs : List ℕ) × (length bs ≤ 1) × (v.devices.console ≡ pushed w.devices.console bs)

none : (w v : TableState) → Keep w v → Writes w v
none w v e = ([], omega arith, e)

-- and then what writes nothing
then_none : (w v x : TableState) → Writes w v → Keep v x → Writes w x
then_none w v x h e = (h.0, h.1, e ∙ h.2)

effect_writes : (w : TableState) (s : ℕ) (e : Effect) → Writes w (table_after_effect w s e)
effect_writes w s (WritesConsole byte) = (byte ∷ [], omega arith, refl)
effect_writes w s (Kills d) = none w (table_after_death w d cause.Kill) (death_keeps w d cause.Kill)
effect_writes w s Nothing = none w w refl
effect_writes w s (SetsAlarm due) = none w (table_after_effect w s (SetsAlarm due)) refl
effect_writes w s (SetsOwner line owner) = none w (table_after_effect w s (SetsOwner line owner)) refl
effect_writes w s (SetsRegister register value) = none w (table_after_effect w s (SetsRegister register value)) refl
effect_writes w s (Copies copy) = none w (table_after_effect w s (Copies copy)) refl
effect_writes w s (SetsWindow user window) = none w (table_after_effect w s (SetsWindow user window)) refl

reply_keeps : (w : TableState) (s n : ℕ) (a : ReplyWords) → Keep w (table_after_reply w s n a)
unfolding table_after_reply
reply_keeps w s n a = goes_on_keeps (with_message w s (reply_bytes n a)) s 0

by_case_writes : (w : TableState) (b : Bool) (x y : TableState) → Writes w x → Writes w y → Writes w (cond b x y)
by_case_writes w true x y e f = e
by_case_writes w false x y e f = f

serving_writes : (w : TableState) (s : ℕ) (r : KernelCall) → Writes w (table_after_serving w s r)
unfolding table_after_serving
serving_writes w s r =
    let made = table_after_change w s r in
    let told = table_after_reply made s 0 (words_of_reply w s r) in
    by_case_writes w (ends_caller s r) (table_after_death w s cause.Exit) told (none w (table_after_death w s cause.Exit) (death_keeps w s cause.Exit))
    (then_none w made told (effect_writes w s (effect_of (known w s) s r)) (reply_keeps made s 0 (words_of_reply w s r)))

kernel_call_by_writes : (w : TableState) (s : ℕ) (r : Option KernelCall) (e : Option Errno) → Writes w (table_after_kernel_call_by w s r e)
kernel_call_by_writes w s r (Some e) = none w (table_after_reply w s (errno_bits e) no_reply_words) (reply_keeps w s (errno_bits e) no_reply_words)
kernel_call_by_writes w s None None = none w w refl
kernel_call_by_writes w s (Some r) None = serving_writes w s r

-- ---- returns, lines and the clock

trap_at_back_writes : (t : TableState) (s : ℕ) (x : TrapAnswer) → Writes t (table_after_trap_at_back t s x)
unfolding table_after_trap table_after_kernel_call
trap_at_back_writes t s trap_ends.Done =
    none t (table_after_trap_by t s (call_of (process_at t s).image.regs.ecx) (process_at t s).image.regs.eax)
    (trap_by_keeps t s (call_of (process_at t s).image.regs.ecx) (process_at t s).image.regs.eax)
trap_at_back_writes t s trap_ends.Kernel = kernel_call_by_writes t s (kernel_call_under t.rules (message_words_at t s)) (kernel_call_refusal t s)

end_of_turn_writes : (t : TableState) (s : ℕ) (b : Bool) (x : Stop) → Writes t (table_after_end_of_turn t s b x)
end_of_turn_writes t s true x = none t (table_after_death t s cause.Kill) (death_keeps t s cause.Kill)
end_of_turn_writes t s false Spent = none t (table_after_queueing t s) (queueing_keeps t s)
end_of_turn_writes t s false Trap = trap_at_back_writes t s (trap_answer t s)
end_of_turn_writes t s false (Fault v) = none t (table_after_death t s (cause.Fault v)) (death_keeps t s (cause.Fault v))

back_writes : (t : TableState) (l : HeldProcess) → Writes t (table_after_back t l)
unfolding table_after_back table_after_coming_home
back_writes t l = end_of_turn_writes (table_after_coming_home t l) l.slot (is_doomed (process_at t l.slot).state) l.out.stop

sending_out_keeps : (t : TableState) (s : ℕ) → Keep t (table_after_sending_out t s)
unfolding table_after_sending_out
sending_out_keeps t s = refl

rings_keep : (ps : List ℕ) (w : TableState) → Keep w (table_after_rings w ps)
rings_keep [] w = refl
rings_keep (s ∷ ps) w = rings_keep ps (table_after_ring w s) ∙ notifying_keeps (with_alarm w s None) source.Clock s

tick_keeps : (w : TableState) → Keep w (table_after_tick w)
unfolding table_after_tick
tick_keeps w = rings_keep (due_slots (with_tick w).uptime 0 w.slots) (with_tick w)

kill_keeps : (w : TableState) (s : ℕ) → Keep w (table_after_kill w s)
unfolding table_after_kill
kill_keeps w s = by_case w (is_out (process_at w s).state) _ _ refl (death_keeps w s cause.Kill)

respawn_keeps : (w : TableState) (s : ℕ) (v : Service) → Keep w (table_after_respawn w s v)
unfolding table_after_respawn
respawn_keeps w s v = refl

-- ---- events

by_step : (w : World) (a : ℕ) (x : Option HeldProcess) → Keep w.table (world_after_step w a x).table
by_step w a None = refl
by_step w a (Some l) = refl

by_take : (w : World) (a : ℕ) (s : Option ℕ) → Keep w.table (world_after_take w a s).table
by_take w a None = refl
by_take w a (Some s) = sending_out_keeps w.table s

by_back : (w : World) (a : ℕ) (x : Option HeldProcess) → Writes w.table (world_after_back w a x).table
by_back w a None = none w.table w.table refl
by_back w a (Some l) = back_writes w.table l

by_line : (w : World) (l : ℕ) (owner : Option ℕ) → Keep w.table (world_after_line w l owner).table
by_line w l None = refl
by_line w l (Some s) = notifying_keeps (with_line w.table s l) source.Hardware s

by_respawn : (w : World) (s : ℕ) (v : Option Service) → Keep w.table (world_after_respawn w s v).table
by_respawn w s None = refl
by_respawn w s (Some v) = respawn_keeps w.table s v

-- how many bytes an event may write
abbrev pub backs_of : Event → ℕ
backs_of Back = 1
backs_of _ = 0

-- WHAT AN EVENT WRITES
abbrev pub EventWrites : World → ℕ → Event → Type 0
EventWrites w a e = (bs : List ℕ) × (length bs ≤ backs_of e) × ((world_after_event w a e).table.devices.console ≡ pushed w.table.devices.console bs)

pub event_writes : (w : World) (a : ℕ) (e : Event) → EventWrites w a e
unfolding world_after_event
event_writes w a Step = ([], omega arith, by_step w a (held_by w a))
event_writes w a Take = ([], omega arith, by_take w a (first_ready w.table.ready))
event_writes w a Back = by_back w a (held_by w a)
event_writes w a (Line l) = ([], omega arith, by_line w l (owner_of w.table l))
event_writes w a Tick = ([], omega arith, tick_keeps w.table)
event_writes w a (Kill e) = ([], omega arith, kill_keeps w.table (e % 1024))
event_writes w a (Respawn s) = ([], omega arith, by_respawn w s (slice_get w.services s))
