-- The six checks of a trap (book, 2.6.3; proc.c, sys_call and mini_send).
use Rattle.std.specs.Prelude.{ℕ, ◌≡◌, ◌≢◌, ◌<◌, ◌+◌, ◌==◌, nat_lt, not, ◌&&◌, ◌||◌, Bool, true, false, List, [], ◌∷◌}
use Rattle.std.specs.Prelude.{Option, Some, None, if◌then◌else◌, length, drop, is_none}
use Rattle.mx_sched.specs.Proc.declared.errors.Errno.{Errno}
use Rattle.mx_sched.specs.Proc.declared.errors.Errno.TheVariants.{BadAddress, Locked, BadEndpoint, Denied, Dead}
use Rattle.mx_sched.specs.Proc.EndpointNumbers.{slot_of, generation_of, any_endpoint, hardware_endpoint}
use Rattle.mx_sched.specs.Proc.EndpointNumbers.{system_endpoint, clock_endpoint}
use Rattle.mx_sched.specs.Proc.Endpoints.{names_slot, is_current}
use Rattle.mx_sched.specs.Proc.Sound.{HasBuffer}
use Rattle.mx_sched.specs.Proc.Waits.{leads, Reaches}
use Rattle.mx_sched.specs.Proc.TableState.{TableState, process_at, buffer_at, memory_at}
use Rattle.mx_word.specs.Bits.{has_bit}
use Rattle.mx_ipc.specs.declared.trap_calls.Call.{Call}
use Rattle.mx_ipc.specs.declared.trap_calls.Call.TheVariants.{Send, Receive, Sendrec, Notify}
use Rattle.mx_ipc.specs.declared.trap_calls.Party.{Party}
use Rattle.mx_ipc.specs.declared.trap_calls.Party.TheVariants.{Any, Hardware, Clock, System, Process}

-- the call that ECX numbers
abbrev pub call_of : ℕ → Option Call
call_of n =
    if n == 1 then Some Send else if n == 2 then Some Receive else if n == 3 then Some Sendrec
    else if n == 4 then Some Notify else None

abbrev pub call_number : Call → ℕ
call_number Send = 1
call_number Receive = 2
call_number Sendrec = 3
call_number Notify = 4

-- what EAX names: one of the pseudo-endpoints, or a process by its slot and generation
unfoldable pub party_of : TableState → ℕ → Option Party
party_of w n =
    if n == any_endpoint then Some Any else
    if n == hardware_endpoint then Some Hardware else
    if n == system_endpoint then Some System else
    if n == clock_endpoint then Some Clock else
    if names_slot w n then Some (Process (slot_of n) (generation_of n)) else None

-- a pseudo-process in SEND or NOTIFY
abbrev pub to_pseudo : Call → Party → Bool
to_pseudo Send Hardware = true
to_pseudo Send Clock = true
to_pseudo Send System = true
to_pseudo Notify Hardware = true
to_pseudo Notify Clock = true
to_pseudo Notify System = true
to_pseudo _ _ = false

-- ANY outside RECEIVE; HARDWARE or CLOCK in SENDREC
abbrev pub out_of_place : Call → Party → Bool
out_of_place Send Any = true
out_of_place Sendrec Any = true
out_of_place Notify Any = true
out_of_place Sendrec Hardware = true
out_of_place Sendrec Clock = true
out_of_place _ _ = false

-- SEND and SENDREC
abbrev pub is_send : Call → Bool
is_send Send = true
is_send Sendrec = true
is_send _ = false

abbrev pub is_receive : Call → Bool
is_receive Receive = true
is_receive _ = false

abbrev pub is_notify : Call → Bool
is_notify Notify = true
is_notify _ = false

-- what holds of a party, if there is one
abbrev pub of_party : Option Party → (Party → Bool) → Bool
of_party None f = false
of_party (Some party) f = f party

-- what holds of the slot and the generation of a party that is a process
abbrev pub of_process : Option Party → (ℕ → ℕ → Bool) → Bool
of_process (Some (Process d g)) f = f d g
of_process _ f = false

-- the buffer's 36 bytes don't all lie inside the data segment
abbrev pub is_outside : TableState → ℕ → Bool
is_outside w s = nat_lt (length (memory_at w s)) (buffer_at w s + 36)

-- the send mask of s leaves out d
abbrev pub is_masked : TableState → ℕ → ℕ → Bool
is_masked w s d = not (has_bit (process_at w s).schedule.terms.masks.sends d)

-- a process that is named has a slot
abbrev pub HasUsedSlot : TableState → Party → Type 0
HasUsedSlot w (Process d g) = d < length w.slots
HasUsedSlot w _ = Unit {0}

-- a process that is named is another, and no chain leads from it to s
abbrev pub MayBeSentTo : TableState → ℕ → Party → Type 0
MayBeSentTo w s (Process d g) = (s ≢ d) × (Reaches w.waits d s → ⊥)
MayBeSentTo w s _ = Unit {0}

-- THE SIX CHECKS of a call by s, in order, each with the error that is its result if it holds
abbrev pub checks : TableState → ℕ → Call → Option Party → List (Bool × Errno)
checks w s call party = (
  not (has_bit (process_at w s).schedule.terms.masks.traps (call_number call)) || of_party party (to_pseudo call),
  Denied,
)
    ∷ (is_none party || of_party party (out_of_place call), BadEndpoint)
    ∷ (not (is_notify call) && is_outside w s, BadAddress)
    ∷ (of_process party (λ d g. not (is_receive call) && is_masked w s d), Denied)
    ∷ (of_process party (λ d g. not (is_current w d g)), Dead)
    ∷ (of_process party (λ d g. is_send call && ((d == s) || leads w.waits d s)), Locked)
    ∷ []

-- the error of the first that holds
abbrev pub first_error : List (Bool × Errno) → Option Errno
first_error [] = None
first_error (check ∷ rest) = if check.0 then Some check.1 else first_error rest

-- those after the trap mask, for a party
unfoldable pub party_refusal : TableState → ℕ → Call → Party → Option Errno
party_refusal w s call party =
    if to_pseudo call party then Some Denied else first_error (drop 1 (checks w s call (Some party)))

-- the last three, for a process
unfoldable pub process_refusal : TableState → ℕ → Call → ℕ → ℕ → Option Errno
process_refusal w s call d g = first_error (drop 3 (checks w s call (Some (Process d g))))

-- THE REFUSAL of a call, or none
unfoldable pub call_refusal : TableState → ℕ → Call → Option Party → Option Errno
call_refusal w s call party = first_error (checks w s call party)

-- what is known of a process that passed the last three
abbrev pub PassedProcess : TableState → ℕ → Call → ℕ → Type 0
PassedProcess w s call d = is_send call ≡ true → (s ≢ d) × (Reaches w.waits d s → ⊥)

-- What is known of a call that passed them all.
pub record Passed (w : TableState) (s : ℕ) (call : Call) (party : Party) : Type 0 where
  pub used : HasUsedSlot w party
  pub buffer : is_notify call ≡ false → HasBuffer (process_at w s)
  pub pseudo : to_pseudo call party ≡ false
  pub place : out_of_place call party ≡ false
  pub free : is_send call ≡ true → MayBeSentTo w s party
