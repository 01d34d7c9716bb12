-- WHY a trap or a kernel call is refused, in brackets after its result (our own): the check that has this error. Where
-- several have it, that is the first which says so.
use Rattle.std.specs.Prelude.{ℕ, ◌+◌, ◌==◌, ◌&&◌, ◌||◌, not, nat_lt, nat_le, Bool, true, false, if◌then◌else◌, List, [], ◌++◌, codes, Option, Some, None, is_some, slice_index}
use Rattle.std.specs.Fmt.{decimal}
use Rattle.mx_word.specs.Bits.{has_bit}
use Rattle.mx_kcall.specs.Rows.{row_of}
use Rattle.mx_kcall.specs.declared.rows.CallName.{CallName}
use Rattle.mx_kcall.specs.declared.rows.CallName.TheVariants as calls
use Rattle.mx_kcall.specs.declared.rows.CallRow.{CallRow}
use Rattle.mx_proc.specs.EndpointNumbers.{slot_of, any_endpoint, hardware_endpoint, system_endpoint, clock_endpoint}
use Rattle.mx_proc.specs.declared.errors.Errno.{Errno}
use Rattle.mx_proc.specs.declared.errors.Errno.TheVariants.{BadAddress, Invalid, BadEndpoint, Denied}
use Rattle.mx_look.specs.declared.slot_glances.SlotGlance.{SlotGlance}
use Rattle.mx_look.specs.declared.glance.CpuGlance.{CpuGlance}
use Rattle.mx_look.specs.declared.glance.Glance.{Glance}
use Rattle.mx_look.specs.declared.transition.Transition.{Transition}
use Rattle.mx_look.specs.Transition.{slot_in, held_before}
use Rattle.mx_look.specs.Going.{is_acted}
use Rattle.mx_look.specs.Numbers.{errno_of}
use Rattle.mx_look.specs.Words.{party_text}

-- ---- of a trap

-- HARDWARE, SYSTEM or CLOCK
abbrev pub is_pseudo : ℕ → Bool
is_pseudo e = (e == hardware_endpoint) || (e == system_endpoint) || (e == clock_endpoint)

-- the partner that the call can't have
abbrev pub partner_text : Glance → ℕ → List ℕ
partner_text g party = codes " (to " ++ party_text g party ++ codes ")"

-- ECALLDENIED: no such call, the trap mask, SEND or NOTIFY to a pseudo-process, or else the send mask
unfoldable pub denied_text : Glance → ℕ → ℕ → ℕ → List ℕ
denied_text g traps call party =
    if (call == 0) || nat_lt 4 call then codes " (no call " ++ decimal call ++ codes ")" else
    if not (has_bit traps call) then codes " (trap mask)" else
    if is_pseudo party then partner_text g party else
    codes " (send mask)"

-- EBADSRCDST: ANY, HARDWARE or CLOCK out of place, or the endpoint of no service
unfoldable pub misnamed_text : Glance → ℕ → List ℕ
misnamed_text g party =
    if (party == any_endpoint) || is_pseudo party then partner_text g party else codes " (no such slot)"

-- the refusal of a trap that was held, by a process as it was seen: EFAULT is about the 36 bytes at EBX
abbrev pub trap_reason_by : Glance → CpuGlance → SlotGlance → Option Errno → List ℕ
trap_reason_by g h v (Some Denied) = denied_text g v.traps h.image.ecx h.image.eax
trap_reason_by g h v (Some BadEndpoint) = misnamed_text g h.image.eax
trap_reason_by g h v (Some BadAddress) = codes " (buffer)"
trap_reason_by g h v _ = []

unfoldable pub trap_reason : Glance → CpuGlance → SlotGlance → ℕ → List ℕ
trap_reason g h v r = trap_reason_by g h v (errno_of r)

abbrev pub refusal_part_by : Transition → Option CpuGlance → Option SlotGlance → ℕ → List ℕ
refusal_part_by x (Some h) (Some v) r = trap_reason x.before h v r
refusal_part_by x _ _ r = []

-- WHY A SLOT'S TRAP HAS THIS RESULT, if that is the result of its trap
unfoldable pub refusal_part : Transition → ℕ → ℕ → List ℕ
refusal_part x s r = if is_acted x s then refusal_part_by x (held_before x) (slot_in x.before s) r else []

-- ---- of a kernel call: the word of the request that is at fault, p0 at place 2, and what it is

abbrev pub call_in : Option CallRow → Option CallName
call_in None = None
call_in (Some row) = Some row.call

-- the call that a request asks for, by its type
abbrev pub asked_call : List ℕ → Option CallName
asked_call request = call_in (row_of (slice_index request 1))

abbrev pub is_copy : Option CallName → Bool
is_copy (Some calls.Vircopy) = true
is_copy _ = false

-- EINVAL
abbrev pub invalid_by : Option CallName → List ℕ → List ℕ
invalid_by (Some calls.Irqctl) request =
    if nat_lt 1 (slice_index request 2) then codes " (p0, action)" else codes " (p1, line)"
invalid_by (Some calls.Devio) request =
    if nat_lt 1 (slice_index request 2) then codes " (p0, action)" else codes " (p1, register)"
invalid_by (Some calls.Vircopy) request = codes " (p4, count)"
invalid_by (Some calls.Whois) request = codes " (p0, slot)"
invalid_by (Some calls.Grant) request =
    if nat_lt 3 (slice_index request 5) then codes " (p3, access)" else codes " (p0, oneself)"
invalid_by _ request = []

unfoldable pub invalid_text : List ℕ → List ℕ
invalid_text request = invalid_by (asked_call request) request

-- an endpoint names the slot of a service
abbrev pub names_service : Glance → ℕ → Bool
names_service g e = nat_lt e 2147483648 && is_some (slot_in g (slot_of e))

-- EBADSRCDST: of VIRCOPY the endpoint that is copied from, or else the other
unfoldable pub absent_text : Glance → List ℕ → List ℕ
absent_text g request =
    if is_copy (asked_call request) && names_service g (slice_index request 2) then codes " (p2, endpoint)"
    else codes " (p0, endpoint)"

-- so many bytes from an address on lie inside the memory of a slot's process
abbrev pub holds_in : Option SlotGlance → ℕ → ℕ → Bool
holds_in None at count = false
holds_in (Some u) at count = nat_le (at + count) u.image.limit

-- EFAULT: of VIRCOPY the range that is copied from, or else the other
unfoldable pub outside_text : Glance → List ℕ → List ℕ
outside_text g request =
    if is_copy (asked_call request)
    && holds_in (slot_in g (slot_of (slice_index request 2))) (slice_index request 3) (slice_index request 6)
    then codes " (p3, address)" else codes " (p1, address)"

abbrev pub request_reason_by : Glance → List ℕ → Option Errno → List ℕ
request_reason_by g request (Some Denied) = codes " (call mask)"
request_reason_by g request (Some Invalid) = invalid_text request
request_reason_by g request (Some BadEndpoint) = absent_text g request
request_reason_by g request (Some BadAddress) = outside_text g request
request_reason_by g request _ = []

-- WHY A REQUEST IS ANSWERED SO, by the machine that has answered it
unfoldable pub request_reason : Glance → List ℕ → ℕ → List ℕ
request_reason g request r = request_reason_by g request (errno_of r)
