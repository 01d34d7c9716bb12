-- Who is meant, for whom he waits, and why nothing comes from there, in words (our own).
use Rattle.std.specs.Prelude.{ℕ, ◌^◌, ◌||◌, ◌&&◌, not, nat_lt, if◌then◌else◌, Bool, true, false, List, [], ◌++◌, codes, Option, Some, None}
use Rattle.std.specs.Fmt.{decimal}
use Rattle.mx_insn_words.specs.Numbers.{hexadecimal}
use Rattle.mx_print_report.specs.declared.doing.Awaited.{Awaited}
use Rattle.mx_print_report.specs.declared.doing.Awaited.TheVariants as awaited
use Rattle.mx_print_report.specs.declared.doing.Doing.{Doing}
use Rattle.mx_print_report.specs.declared.doing.Doing.TheVariants.{Sending, Calling, Receiving, Awaiting}
use Rattle.mx_print_report.specs.Words.{name_bytes}
use Rattle.mx_why.specs.declared.notes.Note.{Note}
use Rattle.mx_why.specs.declared.seats.Seat.{Seat}
use Rattle.mx_why.specs.declared.seats.End.{End}
use Rattle.mx_why.specs.Notes.{since}
use Rattle.mx_why.specs.Seats.{seat_in, doing_in}
use Rattle.mx_why.specs.Waiting.{may_name, may_trap}

-- ---- who, and for whom

abbrev pub name_if : Option Seat → List ℕ
name_if None = []
name_if (Some g) = name_bytes g.name.bytes

-- the name of a slot's service
unfoldable pub slot_text : End → ℕ → List ℕ
slot_text e s = name_if (seat_in e s)

unfoldable pub awaited_text : End → Awaited → List ℕ
awaited_text e awaited.Any = codes "any"
awaited_text e awaited.System = codes "SYSTEM"
awaited_text e awaited.Hardware = codes "HARDWARE"
awaited_text e awaited.Clock = codes "CLOCK"
awaited_text e (awaited.Process s) = slot_text e s

-- what one does that waits, and for whom
unfoldable pub wait_text : End → Doing → List ℕ
wait_text e (Sending s) = codes " sends to " ++ slot_text e s
wait_text e (Calling s) = codes " calls " ++ slot_text e s
wait_text e (Awaiting s) = codes " awaits " ++ slot_text e s
wait_text e (Receiving p) = codes " receives from " ++ awaited_text e p
wait_text e _ = []

abbrev pub wait_if : End → Option Doing → List ℕ
wait_if e None = []
wait_if e (Some d) = wait_text e d

-- WHO WAITS, and for whom
unfoldable pub waiting_text : End → ℕ → List ℕ
waiting_text e s = slot_text e s ++ wait_if e (doing_in e s)

unfoldable pub since_text : List Note → ℕ → List ℕ
since_text ns s = codes " since record " ++ decimal (since ns s)

-- ---- why nothing comes

unfoldable pub no_trap_text : Seat → List ℕ → List ℕ
no_trap_text g trap = codes "'s traps " ++ hexadecimal g.traps ++ codes " have no " ++ trap

unfoldable pub only_from_text : End → List Note → ℕ → Awaited → List ℕ
only_from_text e ns s p = codes " receives only from " ++ awaited_text e p ++ codes "," ++ since_text ns s

unfoldable pub takes_from_text : End → List Note → ℕ → Doing → List ℕ
takes_from_text e ns s (Receiving p) = only_from_text e ns s p
takes_from_text e ns s _ = codes " doesn't receive"

-- a process doesn't take a message: RECEIVE is trap 2
unfoldable pub untaken_text : End → List Note → ℕ → Seat → List ℕ
untaken_text e ns s g = if may_trap g 2 then takes_from_text e ns s g.doing else no_trap_text g (codes "RECEIVE")

unfoldable pub bit_text : ℕ → List ℕ
bit_text s = if nat_lt s 32 then codes " (" ++ hexadecimal (2 ^ s) ++ codes ")" else []

-- its send mask has no bit for a slot
unfoldable pub no_bit_text : End → Seat → ℕ → List ℕ
no_bit_text e g s =
    codes "'s send " ++ hexadecimal g.sends ++ codes " has no bit for " ++ slot_text e s ++ bit_text s

unfoldable pub meanwhile_from_text : End → List Note → ℕ → Awaited → List ℕ
meanwhile_from_text e ns q p = codes ", and receives from " ++ awaited_text e p ++ since_text ns q

unfoldable pub meanwhile_text : End → List Note → ℕ → Doing → List ℕ
meanwhile_text e ns q (Receiving p) = meanwhile_from_text e ns q p
meanwhile_text e ns q _ = codes ", and waits"

-- it has the message of a slot, and hasn't answered
unfoldable pub unanswered_text : End → List Note → ℕ → ℕ → Doing → List ℕ
unanswered_text e ns s q d =
    codes " has its message" ++ since_text ns s ++ meanwhile_text e ns q d ++ codes " without an answer"

-- it has sent nothing
unfoldable pub silent_text : End → Doing → List ℕ
silent_text e (Receiving p) = codes " receives too, from " ++ awaited_text e p
silent_text e _ = codes " waits too"

-- it can't send: SEND and SENDREC are traps 1 and 3; NOTIFY, 4, answers no call
abbrev pub has_no_send : Seat → Bool → Bool
has_no_send g is_call = not (may_trap g 1 || may_trap g 3 || (not is_call && may_trap g 4))

-- nothing comes from a slot: of a call, an answer
unfoldable pub unsent_text : End → List Note → ℕ → ℕ → Seat → Bool → List ℕ
unsent_text e ns s q g is_call =
    if not (may_name g s) then no_bit_text e g s else
    if has_no_send g is_call then no_trap_text g (codes "SEND") else
    if is_call then unanswered_text e ns s q g.doing else
    silent_text e g.doing

abbrev pub reason_by : End → List Note → ℕ → Doing → ℕ → Seat → List ℕ
reason_by e ns s (Sending p) q g = untaken_text e ns q g
reason_by e ns s (Calling p) q g = untaken_text e ns q g
reason_by e ns s (Awaiting p) q g = unsent_text e ns s q g true
reason_by e ns s _ q g = unsent_text e ns s q g false

abbrev pub reason_if : End → List Note → ℕ → Doing → ℕ → Option Seat → List ℕ
reason_if e ns s d q None = []
reason_if e ns s d q (Some g) = name_bytes g.name.bytes ++ reason_by e ns s d q g

-- WHY a slot's process, which does this, waits for that of another in vain
unfoldable pub reason_text : End → List Note → ℕ → Doing → ℕ → List ℕ
reason_text e ns s d q = reason_if e ns s d q (seat_in e q)
