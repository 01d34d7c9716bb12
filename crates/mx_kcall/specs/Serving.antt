-- What a kernel call does and answers (our choice).
use Rattle.std.specs.Prelude.{ℕ, ◌+◌, ◌-◌, ◌/◌, ◌%◌, ◌^◌, ◌==◌, not, ◌&&◌, Bool, true, false, Option, Some, None}
use Rattle.std.specs.Prelude.{if◌then◌else◌, slice_index}
use Rattle.mx_respawn.specs.Proc.declared.errors.Errno.{Errno}
use Rattle.mx_respawn.specs.Proc.declared.process.DeathCause.TheVariants as cause
use Rattle.mx_respawn.specs.Proc.EndpointNumbers.{slot_of}
use Rattle.mx_respawn.specs.Proc.Errors.{errno_bits}
use Rattle.mx_respawn.specs.Proc.TableState.{TableState, with_message}
use Rattle.mx_respawn.specs.Calls.{goes_on}
use Rattle.mx_respawn.specs.Death.{table_after_death}
use Rattle.mx_kcall.specs.declared.request.ReplyWords.{ReplyWords}
use Rattle.mx_kcall.specs.declared.request.After.{After}
use Rattle.mx_kcall.specs.declared.request.After.TheVariants.{Reply, Died}
use Rattle.mx_kcall.specs.declared.request.KernelCall.{KernelCall}
use Rattle.mx_kcall.specs.declared.request.KernelCall.TheVariants.{Exit, Times, SetAlarm, Irqctl, Devio, Vircopy, Kill}
use Rattle.mx_kcall.specs.declared.request.KernelCall.TheVariants.{Whois, Grant}
use Rattle.mx_kcall.specs.Effects.{Effect, table_after_effect}
use Rattle.mx_kcall.specs.Effects.Effect.{Nothing, SetsAlarm, SetsOwner, WritesConsole, SetsRegister, Copies, Kills}
use Rattle.mx_kcall.specs.Effects.Effect.{SetsWindow}
use Rattle.mx_kcall.specs.Known.{Known, known}
use Rattle.mx_kcall.specs.Windows.{granted}
use Rattle.mx_kcall.specs.Requests.{kernel_call_under, message_words_at, reply_bytes, no_reply_words}
use Rattle.mx_kcall.specs.Refusals.{kernel_call_refusal}

-- when an alarm rings that is set for a delay
abbrev pub due_after : ℕ → ℕ → Option ℕ
due_after uptime delay = if delay == 0 then None else Some (uptime + delay)

-- the ticks that an alarm has left, 0 if there is none
abbrev pub ticks_left : ℕ → Option ℕ → ℕ
ticks_left uptime None = 0
ticks_left uptime (Some due) = due - uptime

-- what DEVIO does: it writes if its action isn't 0. Register 0 is the console
abbrev pub device_effect : ℕ → ℕ → ℕ → Effect
device_effect action register value =
    if action == 0 then Nothing else if register == 0 then WritesConsole (value % 256) else SetsRegister register value

-- WHAT EACH CALL DOES, by what it may know; most calls do nothing but reply
abbrev pub effect_of : Known → ℕ → KernelCall → Effect
effect_of k s (SetAlarm delay) = SetsAlarm (due_after k.uptime delay)
effect_of k s (Irqctl action line) = SetsOwner line (if action == 1 then Some s else None)
effect_of k s (Devio action register value) = device_effect action register value
effect_of k s (Vircopy copy) = Copies copy
effect_of k s (Kill endpoint) = Kills (slot_of endpoint)
effect_of k s (Grant grant) = SetsWindow (slot_of grant.user) (granted grant.place grant.count grant.access)
effect_of k s _ = Nothing

-- a call that may change another process's memory, state or window
abbrev pub reaches_others : KernelCall → Bool
reaches_others (Vircopy copy) = true
reaches_others (Kill endpoint) = true
reaches_others (Grant grant) = true
reaches_others _ = false

abbrev pub table_after_change : TableState → ℕ → KernelCall → TableState
table_after_change w s r = table_after_effect w s (effect_of (known w s) s r)

abbrev one_word : ℕ → ReplyWords
one_word n = record { p0 = n; p1 = 0; p2 = 0 }

-- THE WORDS OF EACH REPLY, by what the call may know; most replies have none
abbrev pub reply_of : Known → KernelCall → ReplyWords
reply_of k Times = record { p0 = k.uptime; p1 = k.steps % 2 ^ 32; p2 = k.steps / 2 ^ 32 }
reply_of k (SetAlarm delay) = one_word (ticks_left k.uptime k.alarm)
reply_of k (Devio action register value) =
    one_word (if action == 0 && not (register == 0) then slice_index k.registers register else 0)
reply_of k (Whois slot) = one_word (k.endpoint slot)
reply_of k _ = no_reply_words

abbrev pub words_of_reply : TableState → ℕ → KernelCall → ReplyWords
words_of_reply w s r = reply_of (known w s) r

-- a caller that exits, or kills itself
abbrev pub ends_caller : ℕ → KernelCall → Bool
ends_caller s Exit = true
ends_caller s (Kill endpoint) = slot_of endpoint == s
ends_caller s _ = false

-- the reply is written to the caller's buffer, and the caller goes on; it is no delivery
unfoldable pub table_after_reply : TableState → ℕ → ℕ → ReplyWords → TableState
table_after_reply w s result a = goes_on (with_message w s (reply_bytes result a)) s 0

-- a call that isn't refused: the caller dies without a reply, or the reply is written after what the call did
unfoldable pub table_after_serving : TableState → ℕ → KernelCall → TableState
table_after_serving w s r =
    if ends_caller s r then table_after_death w s cause.Exit
    else table_after_reply (table_after_change w s r) s 0 (words_of_reply w s r)

abbrev pub answer_of_serving : ℕ → KernelCall → After
answer_of_serving s r = if ends_caller s r then Died else Reply 0

abbrev pub table_after_kernel_call_by : TableState → ℕ → Option KernelCall → Option Errno → TableState
table_after_kernel_call_by w s r (Some e) = table_after_reply w s (errno_bits e) no_reply_words
table_after_kernel_call_by w s (Some r) None = table_after_serving w s r
table_after_kernel_call_by w s None None = w

abbrev pub answer_of_kernel_call_by : ℕ → Option KernelCall → Option Errno → After
answer_of_kernel_call_by s r (Some e) = Reply (errno_bits e)
answer_of_kernel_call_by s (Some r) None = answer_of_serving s r
answer_of_kernel_call_by s None None = Died

-- A KERNEL CALL by s: the world after it, and how it ended
unfoldable pub table_after_kernel_call : TableState → ℕ → TableState
table_after_kernel_call w s =
    table_after_kernel_call_by w s (kernel_call_under w.rules (message_words_at w s)) (kernel_call_refusal w s)

unfoldable pub answer_of_kernel_call : TableState → ℕ → After
answer_of_kernel_call w s =
    answer_of_kernel_call_by s (kernel_call_under w.rules (message_words_at w s)) (kernel_call_refusal w s)
