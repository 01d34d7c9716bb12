-- Why a kernel call is refused (our choice).
use Rattle.std.specs.Prelude.{ℕ, ◌≡◌, ◌<◌, ◌≤◌, ◌+◌, ◌-◌, ◌==◌, nat_lt, nat_le, not, ◌&&◌, ◌||◌, Bool, true, false}
use Rattle.std.specs.Prelude.{List, [], ◌∷◌, length, Option, Some, None}
use Rattle.mx_respawn.specs.Proc.declared.errors.Errno.{Errno}
use Rattle.mx_respawn.specs.Proc.declared.errors.Errno.TheVariants.{NotPermitted, BadAddress, Invalid, BadEndpoint}
use Rattle.mx_respawn.specs.Proc.declared.errors.Errno.TheVariants.{Denied, Dead, NotReady, BadRequest}
use Rattle.mx_respawn.specs.Proc.EndpointNumbers.{slot_of}
use Rattle.mx_respawn.specs.Proc.States.{is_out}
use Rattle.mx_respawn.specs.Proc.TableState.{TableState, process_at, memory_at}
use Rattle.mx_respawn.specs.Checks.{first_error}
use Rattle.mx_word.specs.Bits.{has_bit}
use Rattle.mx_kcall.specs.declared.request.KernelCall.{KernelCall}
use Rattle.mx_kcall.specs.declared.request.KernelCall.TheVariants.{Irqctl, Devio, Vircopy, Kill, Whois, Grant}
use Rattle.mx_kcall.specs.Known.{Known, is_barred, known}
pub use Rattle.mx_kcall.specs.Known.{is_away, owner_of}
use Rattle.mx_kcall.specs.Requests.{kernel_call_under, message_words_at}
use Rattle.mx_kcall.specs.Rows.{first_call}
use Rattle.mx_kcall.specs.Windows.{allows_reading, allows_writing}

abbrev pub is_owned_by : ℕ → Option ℕ → Bool
is_owned_by s None = false
is_owned_by s (Some t) = t == s

abbrev pub is_owned : Option ℕ → Bool
is_owned None = false
is_owned (Some t) = true

-- THE REASONS of each call in order, and whether each holds, by what it may know; most calls have none
abbrev pub reasons_of : Known → ℕ → KernelCall → List (Bool × Errno)
reasons_of k s (Irqctl action line) =
    (nat_lt 1 action || nat_lt 15 line, Invalid)
    -- the line is another's, or it is given up and isn't the caller's own
    ∷ ((is_owned (k.owner line) || action == 0) && not (is_owned_by s (k.owner line)), NotPermitted)
    ∷ []
reasons_of k s (Devio action register value) = (nat_lt 1 action || nat_lt 255 register, Invalid) ∷ []
reasons_of k s (Vircopy copy) =
    (nat_lt 65536 copy.count, Invalid)
    ∷ (not (k.named copy.source.endpoint), BadEndpoint)
    ∷ (not (k.alive copy.source.endpoint), Dead)
    ∷ (not (k.named copy.target.endpoint), BadEndpoint)
    ∷ (not (k.alive copy.target.endpoint), Dead)
    ∷ (k.away copy.source.endpoint || k.away copy.target.endpoint, NotReady)
    ∷ (is_barred k allows_reading s copy.source copy.count, NotPermitted)
    ∷ (is_barred k allows_writing s copy.target copy.count, NotPermitted)
    ∷ (not (nat_le (copy.source.offset + copy.count) (k.limit (slot_of copy.source.endpoint))), BadAddress)
    ∷ (not (nat_le (copy.target.offset + copy.count) (k.limit (slot_of copy.target.endpoint))), BadAddress)
    ∷ []
reasons_of k s (Kill endpoint) =
    (not (k.named endpoint), BadEndpoint)
    ∷ (not (k.alive endpoint), Dead)
    ∷ (k.away endpoint, NotReady)
    ∷ []
reasons_of k s (Whois slot) =
    (nat_le k.used slot, Invalid)
    ∷ (k.down slot, Dead)
    ∷ []
reasons_of k s (Grant grant) =
    (nat_lt 3 grant.access || (grant.user == k.endpoint s), Invalid)
    ∷ (not (k.named grant.user), BadEndpoint)
    ∷ (not (k.alive grant.user), Dead)
    ∷ (not (grant.access == 0) && not (nat_le (grant.place + grant.count) (k.limit s)), BadAddress)
    ∷ []
reasons_of k s _ = []

abbrev pub kernel_call_reasons : TableState → ℕ → KernelCall → List (Bool × Errno)
kernel_call_reasons w s r = reasons_of (known w s) s r

-- the first that holds; before them all comes the mask of calls, and before that the type
unfoldable pub refusal_of_kernel_call : TableState → ℕ → KernelCall → Option Errno
refusal_of_kernel_call w s r = first_error (kernel_call_reasons w s r)

-- of a call with this bit
abbrev pub kernel_call_refusal_by : TableState → ℕ → ℕ → Option KernelCall → Option Errno
kernel_call_refusal_by w s bit None = Some BadRequest
kernel_call_refusal_by w s bit (Some r) =
    first_error ((not (has_bit (process_at w s).schedule.terms.masks.calls bit), Denied) ∷ kernel_call_reasons w s r)

-- THE REFUSAL of the call at the buffer of a process, or none
unfoldable pub kernel_call_refusal : TableState → ℕ → Option Errno
kernel_call_refusal w s =
    let m = message_words_at w s in kernel_call_refusal_by w s (m.kind - first_call) (kernel_call_under w.rules m)

-- What is known of a call that isn't refused; of most calls nothing.
abbrev pub IsPermitted : TableState → KernelCall → Type 0
IsPermitted w (Irqctl action line) = line < 16
IsPermitted w (Devio action register value) = register < 256
IsPermitted w (Vircopy copy) =
    (slot_of copy.source.endpoint < length w.slots) × (slot_of copy.target.endpoint < length w.slots)
    × (copy.source.offset + copy.count ≤ length (memory_at w (slot_of copy.source.endpoint)))
    × (copy.target.offset + copy.count ≤ length (memory_at w (slot_of copy.target.endpoint)))
IsPermitted w (Kill endpoint) =
    (slot_of endpoint < length w.slots) × (is_out (process_at w (slot_of endpoint)).state ≡ false)
IsPermitted w (Whois slot) = slot < length w.slots
IsPermitted w (Grant grant) = slot_of grant.user < length w.slots
IsPermitted w _ = Unit {0}
