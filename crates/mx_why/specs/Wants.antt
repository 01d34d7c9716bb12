-- WHAT A REFUSED CALL WANTED that its process didn't have (our own): a bit of a mask, a partner that lives, an interrupt
-- line that another one owns. A number that looks like the one of any is wanted in decimal.
use Rattle.std.specs.Prelude.{ℕ, ◌==◌, ◌&&◌, ◌||◌, not, nat_lt, Bool, true, false, if◌then◌else◌, List, Option, Some, None, slice_index, slice_index_or}
use Rattle.mx_word.specs.Bits.{has_bit}
use Rattle.mx_kcall.specs.declared.rows.CallName.{CallName}
use Rattle.mx_kcall.specs.declared.rows.CallName.TheVariants as calls
use Rattle.mx_look.specs.Calls.{kernel_call}
use Rattle.mx_look.specs.Going.{acting, gone_on}
use Rattle.mx_look.specs.Refusals.{asked_call}
use Rattle.mx_look.specs.Transition.{slot_in}
use Rattle.mx_look.specs.declared.glance.CpuGlance.{CpuGlance}
use Rattle.mx_look.specs.declared.glance.Glance.{Glance}
use Rattle.mx_look.specs.declared.slot_glances.SlotGlance.{SlotGlance}
use Rattle.mx_look.specs.declared.transition.Transition.{Transition}
use Rattle.mx_print_report.specs.declared.doing.Awaited.TheVariants as awaited
use Rattle.mx_print_report.specs.declared.doing.Doing.{Doing}
use Rattle.mx_print_report.specs.declared.doing.Doing.TheVariants.{Sending, Calling, Receiving, Awaiting}
use Rattle.mx_proc.specs.EndpointNumbers.{slot_of}
use Rattle.mx_proc.specs.Errors.{errno_bits}
use Rattle.mx_proc.specs.declared.errors.Errno.TheVariants.{BadEndpoint, Dead, Denied, NotPermitted}
use Rattle.mx_why.specs.declared.wants.Want.{Want}
use Rattle.mx_why.specs.declared.wants.Want.TheVariants.{Nothing, Trap, Partner, Call, Living, Any, Line}

-- ---- of a trap

-- ECALLDENIED: the bit of the call, or of the partner. That a pseudo-process can't be one is said by the reason
abbrev pub denied_want : ℕ → ℕ → ℕ → Want
denied_want traps call party =
    if (call == 0) || nat_lt 4 call then Nothing else
    if not (has_bit traps call) then Trap call else
    if nat_lt party 2147483648 then Partner (slot_of party) else
    Nothing

-- EDEADDST: the living process of the slot. A RECEIVE, call 2, from 31438 hex: any is 31438
abbrev pub made_want : CpuGlance → SlotGlance → ℕ → Want
made_want h v r =
    if r == errno_bits Denied then denied_want v.traps h.image.ecx h.image.eax else
    if r == errno_bits Dead then Living h.image.eax else
    if (r == errno_bits BadEndpoint) && (h.image.ecx == 2) && (h.image.eax == 201784) then Any else
    Nothing

abbrev pub partner_want : Doing → Want
partner_want (Sending n) = Living n
partner_want (Calling n) = Living n
partner_want (Awaiting n) = Living n
partner_want (Receiving (awaited.Process n)) = Living n
partner_want _ = Nothing

-- its partner died while it waited
abbrev pub waited_want : Doing → ℕ → Want
waited_want d r = if r == errno_bits Dead then partner_want d else Nothing

abbrev pub went_want : ℕ → SlotGlance → ℕ → Option CpuGlance → Want
went_want s v r None = waited_want v.doing r
went_want s v r (Some h) = if h.slot == s then made_want h v r else waited_want v.doing r

abbrev pub trap_want_by : Transition → ℕ → Option ℕ → Option SlotGlance → Want
trap_want_by x s (Some r) (Some v) = went_want s v r (acting x)
trap_want_by x s _ _ = Nothing

abbrev pub trap_want : Transition → ℕ → Want
trap_want x s = trap_want_by x s (gone_on x s) (slot_in x.before s)

-- ---- of a kernel call

abbrev pub owned_by : ℕ → Option ℕ → Want
owned_by l None = Nothing
owned_by l (Some s) = Line l s

-- an interrupt line that somebody owns
abbrev pub line_want : Glance → ℕ → Want
line_want g l = if nat_lt l 16 then owned_by l (slice_index_or g.owners l None) else Nothing

abbrev pub is_line_call : Option CallName → Bool
is_line_call (Some calls.Irqctl) = true
is_line_call _ = false

-- ECALLDENIED: the bit of the call. EPERM of IRQCTL: the line, which is the second word
abbrev pub answered_want : Transition → List ℕ → ℕ → Want
answered_want x request r =
    if r == errno_bits Denied then Call (slice_index request 1) else
    if (r == errno_bits NotPermitted) && is_line_call (asked_call request) then line_want x.before (slice_index request 3) else
    Nothing

abbrev pub asked_want_by : Transition → Option (List ℕ) → Option (List ℕ) → Want
asked_want_by x (Some request) (Some reply) = answered_want x request (slice_index reply 1)
asked_want_by x _ _ = Nothing

abbrev pub asked_want : Transition → CpuGlance → Option SlotGlance → Want
asked_want x h None = Nothing
asked_want x h (Some u) = asked_want_by x h.image.words u.image.words

abbrev pub want_by : Transition → ℕ → Option CpuGlance → Want
want_by x s None = trap_want x s
want_by x s (Some h) = if h.slot == s then asked_want x h (slot_in x.after s) else trap_want x s

-- WHAT A SLOT'S PROCESS WANTED that is refused a call in a record
unfoldable pub want_of : Transition → ℕ → Want
want_of x s = want_by x s (kernel_call x)
