-- Whose message a trap brings to its caller: what a RECEIVE takes, or a SENDREC after its send.
use Rattle.std.specs.Prelude.{◌≢◌, ℕ, Option, Some, None, if◌then◌else◌}
use Rattle.mx_proc.specs.declared.errors.Errno.{Errno}
use Rattle.mx_proc.specs.declared.process.Partner.{Partner}
use Rattle.mx_proc.specs.declared.process.Partner.TheVariants as partner
use Rattle.mx_proc.specs.declared.process.Source.{Source}
use Rattle.mx_proc.specs.declared.process.Source.TheVariants as source
use Rattle.mx_proc.specs.Waits.{caller_of}
use Rattle.mx_proc.specs.TableState.{TableState, process_at, table_after_delivery, pending_source}
use Rattle.mx_ipc.specs.declared.trap_calls.Call.{Call}
use Rattle.mx_ipc.specs.declared.trap_calls.Call.TheVariants as call
use Rattle.mx_ipc.specs.declared.trap_calls.Party.{Party}
use Rattle.mx_ipc.specs.declared.trap_calls.Party.TheVariants.{Process}
use Rattle.mx_ipc.specs.Checks.{party_of, call_refusal}
use Rattle.mx_kcall.specs.Calls.{accepts, goes_on, partner_of}

-- nobody, or another slot than q
abbrev pub IsNot : ℕ → Option ℕ → Type 0
IsNot q None = Unit {0}
IsNot q (Some s) = q ≢ s

-- a RECEIVE takes a message where no notification is first
abbrev pub sender_of_receive : TableState → ℕ → Partner → Option Source → Option ℕ
sender_of_receive w s p None = caller_of s p w.waits
sender_of_receive w s p (Some x) = None

-- a SENDREC takes an answer that waits already
abbrev pub sender_of_sendrec : TableState → ℕ → ℕ → Option ℕ
sender_of_sendrec w s d =
    if accepts (process_at w d).state s
    then caller_of s (partner.Only (source.Slot d)) (goes_on (table_after_delivery w s d) d 0).waits
    else None

abbrev pub sender_of_checked_call : TableState → ℕ → Call → Party → Option ℕ
sender_of_checked_call w s call.Receive x = sender_of_receive w s (partner_of x) (pending_source w s (partner_of x))
sender_of_checked_call w s call.Sendrec (Process d g) = sender_of_sendrec w s d
sender_of_checked_call w s _ _ = None

abbrev pub sender_of_call : TableState → ℕ → Call → Option Party → Option Errno → Option ℕ
sender_of_call w s c (Some x) None = sender_of_checked_call w s c x
sender_of_call w s c _ _ = None

-- by the call that is made, and what it names
abbrev pub sender_of_trap : TableState → ℕ → Option Call → ℕ → Option ℕ
sender_of_trap w s None n = None
sender_of_trap w s (Some c) n = sender_of_call w s c (party_of w n) (call_refusal w s c (party_of w n))
