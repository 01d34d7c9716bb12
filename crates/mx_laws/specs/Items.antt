-- What each call, a death and a return write down for each slot: the items, in order.
use Rattle.std.specs.Prelude.{ℕ, ◌++◌, Bool, true, false, List, [], ◌∷◌, Option, Some, None, if◌then◌else◌}
use Rattle.mx_image.specs.declared.runs.Stop.{Stop}
use Rattle.mx_image.specs.declared.runs.Stop.TheVariants.{Spent, Trap, Fault}
use Rattle.mx_mem.specs.Segment.{part}
use Rattle.mx_proc.specs.declared.errors.Errno.{Errno}
use Rattle.mx_proc.specs.EndpointNumbers.{slot_of}
use Rattle.mx_proc.specs.declared.errors.Errno.TheVariants.{Denied, Dead}
use Rattle.mx_proc.specs.declared.process.Partner.{Partner}
use Rattle.mx_proc.specs.declared.process.Partner.TheVariants as partner
use Rattle.mx_proc.specs.declared.process.Source.{Source}
use Rattle.mx_proc.specs.declared.process.Source.TheVariants as source
use Rattle.mx_proc.specs.declared.process.State.{State}
use Rattle.mx_proc.specs.declared.process.State.TheVariants.{Calling}
use Rattle.mx_proc.specs.Errors.{errno_bits}
use Rattle.mx_proc.specs.Messages.{notification}
use Rattle.mx_proc.specs.Partners.{lines_in_notification}
use Rattle.mx_proc.specs.Waits.{caller_of}
use Rattle.mx_proc.specs.TableState.{TableState, process_at, message_of, memory_at, source_endpoint, table_after_delivery, pending_source}
use Rattle.mx_ipc.specs.declared.trap_calls.Call.{Call}
use Rattle.mx_ipc.specs.declared.trap_calls.Call.TheVariants as call
use Rattle.mx_ipc.specs.declared.trap_calls.Party.{Party}
use Rattle.mx_ipc.specs.declared.trap_calls.Party.TheVariants.{Process}
use Rattle.mx_kcall.specs.TrapAnswer.{TrapAnswer}
use Rattle.mx_kcall.specs.TrapAnswer.TheVariants as trap_ends
use Rattle.mx_ipc.specs.Checks.{call_of, party_of, call_refusal}
use Rattle.mx_kcall.specs.Calls.{accepts, hears, goes_on, partner_of, trap_answer}
use Rattle.mx_kcall.specs.Death.{table_after_taking_out, waiting_for}
use Rattle.mx_kcall.specs.declared.request.KernelCall.{KernelCall}
use Rattle.mx_kcall.specs.Effects.{Effect}
use Rattle.mx_kcall.specs.Effects.Effect.{Copies, Kills}
use Rattle.mx_kcall.specs.Known.{known}
use Rattle.mx_kcall.specs.declared.request.ReplyWords.{ReplyWords}
use Rattle.mx_kcall.specs.Requests.{kernel_call_under, message_words_at, reply_bytes, no_reply_words}
use Rattle.mx_kcall.specs.Refusals.{kernel_call_refusal}
use Rattle.mx_kcall.specs.Serving.{effect_of, words_of_reply, ends_caller}
use Rattle.mx_laws.specs.Diary.{Item}
use Rattle.mx_laws.specs.Diary.Item.{Result, Message, Copy}

-- ---- messages

-- SEND to d: where d waits for it, the message and 0 for d, then 0 for the caller; else nothing yet
abbrev pub items_of_send : TableState → ℕ → ℕ → List (ℕ × Item)
items_of_send w s d =
    if accepts (process_at w d).state s then (d, Message (message_of w s)) ∷ (d, Result 0) ∷ (s, Result 0) ∷ [] else []

-- the bytes of a notification to d
abbrev pub bytes_of_notice : TableState → ℕ → Source → List ℕ
bytes_of_notice w d x = notification (source_endpoint w x) w.uptime (lines_in_notification x (process_at w d).lines)

-- a notification: to d, if it waits for one
abbrev pub items_of_notifying : TableState → Source → ℕ → List (ℕ × Item)
items_of_notifying w x d =
    if hears (process_at w d).state x then (d, Message (bytes_of_notice w d x)) ∷ (d, Result 0) ∷ [] else []

-- a caller whose message was taken: 0 after a SEND, and after a SENDREC nothing yet
abbrev pub items_of_release : ℕ → State → List (ℕ × Item)
items_of_release p Calling = []
items_of_release p _ = (p, Result 0) ∷ []

-- the message of p comes to s
abbrev pub items_of_taking : TableState → ℕ → Option ℕ → List (ℕ × Item)
items_of_taking w s None = []
items_of_taking w s (Some p) =
    (s, Message (message_of w p)) ∷ items_of_release p (process_at w p).state ++ (s, Result 0) ∷ []

-- EDEADDST for each of these
abbrev pub items_of_freeing : List ℕ → List (ℕ × Item)
items_of_freeing [] = []
items_of_freeing (p ∷ ps) = (p, Result (errno_bits Dead)) ∷ items_of_freeing ps

-- RECEIVE: the first notification that waits, else the first message
abbrev pub items_of_receive : TableState → ℕ → Partner → Option Source → List (ℕ × Item)
items_of_receive w s p None = items_of_taking w s (caller_of s p w.waits)
items_of_receive w s p (Some x) = (s, Message (bytes_of_notice w s x)) ∷ (s, Result 0) ∷ []

-- SENDREC: the message for d, then what a receive from d takes
abbrev pub items_of_sendrec : TableState → ℕ → ℕ → List (ℕ × Item)
items_of_sendrec w s d =
    if accepts (process_at w d).state s
    then (let v = goes_on (table_after_delivery w s d) d 0 in
    (d, Message (message_of w s)) ∷ (d, Result 0)
    ∷ items_of_taking v s (caller_of s (partner.Only (source.Slot d)) v.waits))
    else []

-- a call that passed the checks
abbrev pub items_of_checked_call : TableState → ℕ → Call → Party → List (ℕ × Item)
items_of_checked_call w s call.Send (Process d g) = items_of_send w s d
items_of_checked_call w s call.Receive x = items_of_receive w s (partner_of x) (pending_source w s (partner_of x))
items_of_checked_call w s call.Sendrec (Process d g) = items_of_sendrec w s d
items_of_checked_call w s call.Notify (Process d g) = items_of_notifying w (source.Slot s) d ++ (s, Result 0) ∷ []
items_of_checked_call w s _ _ = []

-- a call: an error is its result
abbrev pub items_of_call : TableState → ℕ → Call → Option Party → Option Errno → List (ℕ × Item)
items_of_call w s c party (Some e) = (s, Result (errno_bits e)) ∷ []
items_of_call w s c None None = []
items_of_call w s c (Some x) None = items_of_checked_call w s c x

-- a trap by the number of its call, and what it names
abbrev pub items_of_trap_by : TableState → ℕ → Option Call → ℕ → List (ℕ × Item)
items_of_trap_by w s None n = (s, Result (errno_bits Denied)) ∷ []
items_of_trap_by w s (Some c) n = items_of_call w s c (party_of w n) (call_refusal w s c (party_of w n))

-- a death: EDEADDST for each process that waits for the dead one
abbrev pub items_of_death : TableState → ℕ → List (ℕ × Item)
items_of_death w s = items_of_freeing (waiting_for (table_after_taking_out w s) s)

-- what a kernel call does that others see in their images: a copy, or a death
abbrev pub items_of_effect : TableState → Effect → List (ℕ × Item)
items_of_effect w (Copies c) = (
  slot_of c.target.endpoint,
  Copy c.target.offset (part (memory_at w (slot_of c.source.endpoint)) c.source.offset c.count),
) ∷ []
items_of_effect w (Kills s) = items_of_death w s
items_of_effect w _ = []

-- a reply: its bytes, and 0
abbrev pub items_of_reply : ℕ → ℕ → ReplyWords → List (ℕ × Item)
items_of_reply s result a = (s, Message (reply_bytes result a)) ∷ (s, Result 0) ∷ []

-- a kernel call that isn't refused: who ends itself has no reply
abbrev pub items_of_serving : TableState → ℕ → KernelCall → List (ℕ × Item)
items_of_serving w s r =
    if ends_caller s r then items_of_death w s
    else items_of_effect w (effect_of (known w s) s r) ++ items_of_reply s 0 (words_of_reply w s r)

-- a kernel call; an error is in the reply
abbrev pub items_of_kernel_call : TableState → ℕ → Option KernelCall → Option Errno → List (ℕ × Item)
items_of_kernel_call w s r (Some e) = items_of_reply s (errno_bits e) no_reply_words
items_of_kernel_call w s (Some r) None = items_of_serving w s r
items_of_kernel_call w s None None = []

-- a trap of s, or its kernel call
abbrev pub items_of_trap : TableState → ℕ → TrapAnswer → List (ℕ × Item)
items_of_trap t s trap_ends.Done =
    let regs = (process_at t s).image.regs in items_of_trap_by t s (call_of regs.ecx) regs.eax
items_of_trap t s trap_ends.Kernel =
    items_of_kernel_call t s (kernel_call_under t.rules (message_words_at t s)) (kernel_call_refusal t s)

-- THE END OF A TURN of s
abbrev pub items_of_end_of_turn : TableState → ℕ → Bool → Stop → List (ℕ × Item)
items_of_end_of_turn t s true stop = items_of_death t s
items_of_end_of_turn t s false Spent = []
items_of_end_of_turn t s false Trap = items_of_trap t s (trap_answer t s)
items_of_end_of_turn t s false (Fault v) = items_of_death t s
