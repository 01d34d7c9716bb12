-- What SEND, RECEIVE, SENDREC and NOTIFY do (book, 2.6.3; proc.c), and a trap.
use Rattle.std.specs.Prelude.{ℕ, ◌≡◌, ◌<◌, length, ◌==◌, Bool, true, false, Option, Some, None, if◌then◌else◌}
use Rattle.mx_sched.specs.Proc.declared.errors.Errno.{Errno}
use Rattle.mx_sched.specs.Proc.declared.errors.Errno.TheVariants.{Denied}
use Rattle.mx_sched.specs.Proc.declared.process.State.{State}
use Rattle.mx_sched.specs.Proc.declared.process.State.TheVariants.{Home, Sending, Calling, Receiving, Awaiting}
use Rattle.mx_sched.specs.Proc.declared.process.Partner.{Partner}
use Rattle.mx_sched.specs.Proc.declared.process.Partner.TheVariants as partner
use Rattle.mx_sched.specs.Proc.declared.process.Source.{Source}
use Rattle.mx_sched.specs.Proc.declared.process.Source.TheVariants as source
use Rattle.mx_sched.specs.Proc.EndpointNumbers.{slot_of}
use Rattle.mx_sched.specs.Proc.Errors.{errno_bits}
use Rattle.mx_sched.specs.Proc.Partners.{order_of_source, may_be}
use Rattle.mx_sched.specs.Proc.Waits.{caller_of}
use Rattle.mx_sched.specs.Proc.TableState.{TableState, process_at, with_state, with_result, with_pending}
use Rattle.mx_sched.specs.Proc.TableState.{table_after_block, table_after_unblock, table_after_delivery}
use Rattle.mx_sched.specs.Proc.TableState.{table_after_notice, pending_source}
use Rattle.mx_sched.specs.Queueing.{table_after_queueing}
use Rattle.mx_ipc.specs.declared.trap_calls.Call.{Call}
use Rattle.mx_ipc.specs.declared.trap_calls.Call.TheVariants as call
use Rattle.mx_ipc.specs.declared.trap_calls.Party.{Party}
use Rattle.mx_ipc.specs.declared.trap_calls.Party.TheVariants.{Any, Hardware, Clock, System, Process}
use Rattle.mx_ipc.specs.declared.trap_calls.TrapAnswer.{TrapAnswer}
use Rattle.mx_ipc.specs.declared.trap_calls.TrapAnswer.TheVariants.{Done, Kernel}
use Rattle.mx_ipc.specs.Checks.{call_of, party_of, call_refusal}

-- a process goes on with a result: EAX is it, and the process is queued
unfoldable pub goes_on : TableState → ℕ → ℕ → TableState
goes_on w s r = table_after_queueing (with_result w s r) s

-- whether a process in a state receives a message of a slot: SENDREC waits for it too
abbrev pub accepts : State → ℕ → Bool
accepts (Receiving p) s = may_be p (order_of_source (source.Slot s))
accepts (Awaiting d) s = d == s
accepts _ s = false

-- whether it receives a notification: not in a SENDREC
abbrev pub hears : State → Source → Bool
hears (Receiving p) from = may_be p (order_of_source from)
hears _ from = false

-- SEND: partner first, caller last
unfoldable pub table_after_send : TableState → ℕ → ℕ → TableState
table_after_send w s d =
    if accepts (process_at w d).state s then goes_on (goes_on (table_after_delivery w s d) d 0) s 0
    else table_after_block w s d Sending

-- a caller whose message was taken: after a SEND it goes on, in a SENDREC it turns to receiving
unfoldable pub table_after_release : TableState → ℕ → ℕ → State → TableState
table_after_release w s p Calling = with_state (table_after_unblock w p) p (Awaiting s)
table_after_release w s p _ = goes_on (table_after_unblock w p) p 0

abbrev pub table_after_taking_from : TableState → ℕ → State → Option ℕ → TableState
table_after_taking_from w s state None = with_state w s state
table_after_taking_from w s state (Some p) =
    goes_on (table_after_release (table_after_delivery w p s) s p (process_at w p).state) s 0

-- the first caller's message, of those that the partner may be; else the process waits in a state
unfoldable pub table_after_taking : TableState → ℕ → Partner → State → TableState
table_after_taking w s p state = table_after_taking_from w s state (caller_of s p w.waits)

abbrev pub table_after_receive_by : TableState → ℕ → Partner → Option Source → TableState
table_after_receive_by w s p None = table_after_taking w s p (Receiving p)
table_after_receive_by w s p (Some from) = goes_on (table_after_notice w s from) s 0

-- RECEIVE: the first pending notification, else the first caller's message, else the process is receiving
unfoldable pub table_after_receive : TableState → ℕ → Partner → TableState
table_after_receive w s p = table_after_receive_by w s p (pending_source w s p)

-- SENDREC: SEND, then RECEIVE from that process without notifications
unfoldable pub table_after_sendrec : TableState → ℕ → ℕ → TableState
table_after_sendrec w s d =
    if accepts (process_at w d).state s
    then table_after_taking (goes_on (table_after_delivery w s d) d 0) s (partner.Only (source.Slot d)) (Awaiting d)
    else table_after_block w s d Calling

-- a notification: delivered at once, or its source's bit is set
unfoldable pub table_after_notifying : TableState → Source → ℕ → TableState
table_after_notifying w from d =
    if hears (process_at w d).state from then goes_on (table_after_notice w d from) d 0
    else with_pending w d (order_of_source from) true

-- whom a RECEIVE names
abbrev pub partner_of : Party → Partner
partner_of Any = partner.Any
partner_of Hardware = partner.Only source.Hardware
partner_of Clock = partner.Only source.Clock
partner_of System = partner.System
partner_of (Process d g) = partner.Only (source.Slot d)

-- what a call that passed the checks does; SENDREC to SYSTEM is left to the kernel
abbrev pub table_after_checked_call : TableState → ℕ → Call → Party → TableState
table_after_checked_call w s call.Send (Process d g) = table_after_send w s d
table_after_checked_call w s call.Receive party = table_after_receive w s (partner_of party)
table_after_checked_call w s call.Sendrec (Process d g) = table_after_sendrec w s d
table_after_checked_call w s call.Notify (Process d g) = goes_on (table_after_notifying w (source.Slot s) d) s 0
table_after_checked_call w s _ _ = w

abbrev pub table_after_call_by : TableState → ℕ → Call → Option Party → Option Errno → TableState
table_after_call_by w s call party (Some e) = goes_on w s (errno_bits e)
table_after_call_by w s call None None = w
table_after_call_by w s call (Some party) None = table_after_checked_call w s call party

-- a call by s that names a number: the first check that holds gives the result, else it acts
unfoldable pub table_after_call : TableState → ℕ → Call → ℕ → TableState
table_after_call w s call n =
    let party = party_of w n in table_after_call_by w s call party (call_refusal w s call party)

abbrev pub call_answer_by : Call → Option Party → Option Errno → TrapAnswer
call_answer_by call.Sendrec (Some System) None = Kernel
call_answer_by _ _ _ = Done

-- whether a kernel call is left to make
unfoldable pub call_answer : TableState → ℕ → Call → ℕ → TrapAnswer
call_answer w s call n = let party = party_of w n in call_answer_by call party (call_refusal w s call party)

abbrev pub table_after_trap_by : TableState → ℕ → Option Call → ℕ → TableState
table_after_trap_by w s None n = goes_on w s (errno_bits Denied)
table_after_trap_by w s (Some call) n = table_after_call w s call n

abbrev pub trap_answer_by : TableState → ℕ → Option Call → ℕ → TrapAnswer
trap_answer_by w s None n = Done
trap_answer_by w s (Some call) n = call_answer w s call n

-- A TRAP: ECX numbers the call, EAX names whom
unfoldable pub table_after_trap : TableState → ℕ → TableState
table_after_trap w s = let regs = (process_at w s).image.regs in table_after_trap_by w s (call_of regs.ecx) regs.eax

unfoldable pub trap_answer : TableState → ℕ → TrapAnswer
trap_answer w s = let regs = (process_at w s).image.regs in trap_answer_by w s (call_of regs.ecx) regs.eax

-- NOTIFY: of a slot it is a call by it; of HARDWARE and CLOCK it is only the notification, to the process
-- that the slot has now
abbrev pub table_after_notify : TableState → Source → ℕ → TableState
table_after_notify w (source.Slot s) n = table_after_call w s call.Notify n
table_after_notify w source.Hardware n = table_after_notifying w source.Hardware (slot_of n)
table_after_notify w source.Clock n = table_after_notifying w source.Clock (slot_of n)

-- a slot that notifies is at home while the kernel serves it; HARDWARE and CLOCK notify a slot that is used
abbrev pub MayNotify : TableState → Source → ℕ → Type 0
MayNotify w (source.Slot s) n = (s < length w.slots) × ((process_at w s).state ≡ Home)
MayNotify w _ n = slot_of n < length w.slots
