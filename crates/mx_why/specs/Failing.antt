-- A CALL THAT IS REFUSED in a record, in words: the call, its result and why, as a trace has them;
-- and where it was made (our own). A trap's result is in EAX, a kernel call's is the type of its reply.
use Rattle.std.specs.Prelude.{ℕ, ◌-◌, ◌==◌, ◌&&◌, not, nat_lt, if◌then◌else◌, List, [], ◌++◌, codes, length, take, Option, Some, None, slice_get, slice_index}
use Rattle.mx_insn_words.specs.Numbers.{eight_digits}
use Rattle.mx_look.specs.Calls.{asks_kernel, kernel_call}
use Rattle.mx_look.specs.Code.{place_text_if}
use Rattle.mx_look.specs.Doings.{is_ready}
use Rattle.mx_look.specs.Going.{acting, gone_on}
use Rattle.mx_look.specs.KernelCalls.{request_name, request_text}
use Rattle.mx_look.specs.Nearest.{nearest_symbol}
use Rattle.mx_look.specs.Numbers.{result_text}
use Rattle.mx_look.specs.Refusals.{refusal_part, request_reason}
use Rattle.mx_look.specs.Slots.{has_changed}
use Rattle.mx_look.specs.Trace.{call_text}
use Rattle.mx_look.specs.Transition.{slot_in}
use Rattle.mx_look.specs.Words.{party_text}
use Rattle.mx_look.specs.declared.glance.CpuGlance.{CpuGlance}
use Rattle.mx_look.specs.declared.glance.Glance.{Glance}
use Rattle.mx_look.specs.declared.slot_glances.SlotGlance.{SlotGlance}
use Rattle.mx_look.specs.declared.transition.Transition.{Transition}
use Rattle.mx_machine.specs.Proc.TableState.{process_at}
use Rattle.mx_machine.specs.Service.{Service}
use Rattle.mx_machine.specs.World.{World}
use Rattle.mx_print_report.specs.declared.doing.Awaited.TheVariants as awaited
use Rattle.mx_print_report.specs.declared.doing.Doing.{Doing}
use Rattle.mx_print_report.specs.declared.doing.Doing.TheVariants.{Sending, Calling, Receiving, Awaiting}
use Rattle.mx_print_report.specs.Words.{name_bytes}
use Rattle.mx_proc.specs.EndpointNumbers.{slot_of}
use Rattle.mx_proc.specs.Errors.{errno_bits}
use Rattle.mx_proc.specs.declared.errors.Errno.TheVariants.{Locked}

-- ---- the call

abbrev pub partner_name_by : Glance → ℕ → Option SlotGlance → List ℕ
partner_name_by g n None = party_text g n
partner_name_by g n (Some v) =
    if nat_lt n 2147483648 then name_bytes v.name.bytes else party_text g n

-- whom a number names: the service of a slot, without the generation
unfoldable pub partner_name : Glance → ℕ → List ℕ
partner_name g n = partner_name_by g n (slot_in g (slot_of n))

-- a call's name after some text, or another text if it has none
abbrev pub name_after : List ℕ → List ℕ → List ℕ → List ℕ
name_after text other [] = other
name_after text other name = text ++ name

abbrev pub asked_by : Glance → List ℕ → CpuGlance → List ℕ → List ℕ
asked_by g text h message =
    name_after text (request_text g.rules h) (request_name g.rules (slice_index message 1))

abbrev pub asked_if : Glance → List ℕ → CpuGlance → Option (List ℕ) → List ℕ
asked_if g text h None = []
asked_if g text h (Some message) = if asks_kernel h then asked_by g text h message else []

-- which kernel call is asked for, without its words; of a type that is none all that a trace has
unfoldable pub asked_text : Glance → List ℕ → CpuGlance → List ℕ
asked_text g text h = asked_if g text h h.image.words

-- the call of a trap
unfoldable pub trapped_text : Glance → CpuGlance → List ℕ
trapped_text g h =
    call_text h.image.ecx ++ codes " " ++ partner_name g h.image.eax ++ asked_text g (codes ", ") h

unfoldable pub made_text : Glance → List ℕ → ℕ → List ℕ
made_text g call n = call ++ partner_name g n

-- the call in which a process waits that does this
abbrev pub waited_text : Glance → Doing → List ℕ
waited_text g (Sending n) = made_text g (codes "SEND ") n
waited_text g (Calling n) = made_text g (codes "SENDREC ") n
waited_text g (Awaiting n) = made_text g (codes "SENDREC ") n
waited_text g (Receiving (awaited.Process n)) = made_text g (codes "RECEIVE ") n
waited_text g _ = []

-- the call of a slot's process: of its trap that is acted, or the one in which it waited
abbrev pub trap_text : Transition → ℕ → SlotGlance → Option CpuGlance → List ℕ
trap_text x s v None = waited_text x.before v.doing
trap_text x s v (Some h) =
    if h.slot == s then trapped_text x.before h else waited_text x.before v.doing

-- ---- a trap's result

-- the result, and why
abbrev pub told_result : Transition → ℕ → ℕ → List ℕ
told_result x s r = result_text r ++ refusal_part x s r

-- ELOCKED is also the answer to who names himself
unfoldable pub self_text : CpuGlance → ℕ → List ℕ
self_text h r =
    if (r == errno_bits Locked) && (slot_of h.image.eax == h.slot) then codes " (oneself)" else []

abbrev pub besides_text : Transition → ℕ → ℕ → Option CpuGlance → List ℕ
besides_text x s r None = codes " while it waited"
besides_text x s r (Some h) = if h.slot == s then self_text h r else codes " while it waited"

unfoldable pub refused_text : Transition → ℕ → SlotGlance → ℕ → List ℕ
refused_text x s v r =
    trap_text x s v (acting x) ++ codes ": " ++ told_result x s r ++ besides_text x s r (acting x)

abbrev pub refused_by : Transition → ℕ → ℕ → Option SlotGlance → Option SlotGlance → List ℕ
refused_by x s r (Some v) (Some u) = refused_text x s v r
refused_by x s r _ _ = []

abbrev pub trap_failed_by : Transition → ℕ → Option ℕ → List ℕ
trap_failed_by x s None = []
trap_failed_by x s (Some r) =
    if r == 0 then [] else refused_by x s r (slot_in x.before s) (slot_in x.after s)

-- A TRAP IS REFUSED: its process has gone on with an error
unfoldable pub trap_failed : Transition → ℕ → List ℕ
trap_failed x s = if has_changed x s then trap_failed_by x s (gone_on x s) else []

-- ---- a kernel call's answer

unfoldable pub kernel_text : Transition → CpuGlance → List ℕ → List ℕ → List ℕ
kernel_text x h request reply =
    codes "kernel call" ++ asked_text x.before (codes " ") h ++ codes ": "
    ++ result_text (slice_index reply 1) ++ request_reason x.after request (slice_index reply 1)

abbrev pub answered_by :
    Transition → CpuGlance → SlotGlance → Option (List ℕ) → Option (List ℕ) → List ℕ
answered_by x h u (Some request) (Some reply) =
    if is_ready u.doing && not (slice_index reply 1 == 0) then kernel_text x h request reply else []
answered_by x h u _ _ = []

unfoldable pub answered_text : Transition → CpuGlance → SlotGlance → List ℕ
answered_text x h u = answered_by x h u h.image.words u.image.words

abbrev pub answered_if : Transition → CpuGlance → Option SlotGlance → List ℕ
answered_if x h None = []
answered_if x h (Some u) = answered_text x h u

abbrev pub kernel_failed_by : Transition → ℕ → Option CpuGlance → List ℕ
kernel_failed_by x s None = []
kernel_failed_by x s (Some h) = if h.slot == s then answered_if x h (slot_in x.after s) else []

-- A KERNEL CALL IS REFUSED: its caller goes on, and the type of the reply is an error
unfoldable pub kernel_failed : Transition → ℕ → List ℕ
kernel_failed x s = kernel_failed_by x s (kernel_call x)

-- WHAT A SLOT'S PROCESS IS REFUSED in a record, if anything
unfoldable pub failed_text : Transition → ℕ → List ℕ
failed_text x s = trap_failed x s ++ kernel_failed x s

-- ---- where

abbrev pub without_last : List ℕ → List ℕ
without_last text = take (length text - 1) text

-- an address of a program, as a listing has it before an instruction
unfoldable pub place_at : Service → ℕ → List ℕ
place_at v at =
    codes " at "
    ++ without_last
    (eight_digits at ++ codes " " ++ place_text_if at (nearest_symbol at v.program.symbols))

abbrev pub call_place_by : World → ℕ → Option Service → List ℕ
call_place_by w s None = []
call_place_by w s (Some v) = place_at v ((process_at w.table s).image.eip - 2)

-- WHERE a process made its trap, which has two bytes and has been made
abbrev pub call_place : World → ℕ → List ℕ
call_place w s = call_place_by w s (slice_get w.services s)
