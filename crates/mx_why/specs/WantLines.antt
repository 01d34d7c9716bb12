-- WHAT A REFUSED CALL WANTED, in words (our own).
use Rattle.std.specs.Prelude.{ℕ, ◌-◌, ◌==◌, ◌||◌, nat_lt, if◌then◌else◌, List, [], ◌++◌, codes, Option, Some, None, slice_get}
use Rattle.std.specs.Fmt.{decimal}
use Rattle.std.specs.Str.{bytes_eq}
use Rattle.mx_insn_words.specs.Numbers.{hexadecimal}
use Rattle.mx_look.specs.Doings.{is_down}
use Rattle.mx_look.specs.KernelCalls.{request_name}
use Rattle.mx_look.specs.Trace.{call_name}
use Rattle.mx_machine.specs.declared.config.Config.{Config}
use Rattle.mx_machine.specs.declared.config.ServiceLine.{ServiceLine}
use Rattle.mx_print_report.specs.Words.{name_bytes}
use Rattle.mx_proc.specs.EndpointNumbers.{slot_of}
use Rattle.mx_why.specs.declared.seats.End.{End}
use Rattle.mx_why.specs.declared.seats.Seat.{Seat}
use Rattle.mx_why.specs.declared.wants.Want.{Want}
use Rattle.mx_why.specs.declared.wants.Want.TheVariants.{Nothing, Trap, Partner, Call, Living, Any, Line}
use Rattle.mx_why.specs.Reasons.{bit_text, slot_text}
use Rattle.mx_why.specs.Seats.{seat_in}
use Rattle.mx_why.specs.UnfitLines.{name_of}

-- ---- a bit of a mask

-- a mask of a service, as the configuration has it
unfoldable pub mask_text : ServiceLine → List ℕ → ℕ → List ℕ
mask_text l field mask = name_of l ++ field ++ hexadecimal mask

unfoldable pub bit_for_text : List ℕ → ℕ → List ℕ
bit_for_text what bit = codes " has no bit for " ++ what ++ bit_text bit

unfoldable pub lacking_text : ServiceLine → List ℕ → ℕ → List ℕ → ℕ → List ℕ
lacking_text l field mask what bit = mask_text l field mask ++ bit_for_text what bit ++ codes "; masks are hexadecimal"

unfoldable pub partner_text : ServiceLine → ℕ → ServiceLine → List ℕ
partner_text l t o = codes ": " ++ lacking_text l (codes "'s send ") l.terms.masks.sends (name_of o) t

abbrev pub partner_by : ServiceLine → ℕ → Option ServiceLine → List ℕ
partner_by l t None = []
partner_by l t (Some o) = partner_text l t o

-- the call of a type, which is 600 hex and its bit
unfoldable pub call_text : Config → ServiceLine → ℕ → List ℕ
call_text c l kind =
    codes ": " ++ lacking_text l (codes "'s calls ") l.terms.masks.calls (request_name c.rules kind) (kind - 1536)

unfoldable pub trap_text : ServiceLine → ℕ → List ℕ
trap_text l call = codes ": " ++ lacking_text l (codes "'s traps ") l.terms.masks.traps (call_name call) call

-- ---- who lives

unfoldable pub successor_text : Seat → List ℕ
successor_text g = name_bytes g.name.bytes ++ codes " is " ++ decimal g.endpoint

unfoldable pub instead_text : ℕ → List ℕ
instead_text n = codes " now, and not " ++ decimal n ++ codes "; WHOIS tells it"

unfoldable pub living_text : Seat → ℕ → List ℕ
living_text g n = codes ": " ++ successor_text g ++ instead_text n

-- the process that lives in the slot at the end, if another one was named
abbrev pub living_by : ℕ → Option Seat → List ℕ
living_by n None = []
living_by n (Some g) = if is_down g.doing || (g.endpoint == n) then [] else living_text g n

-- ---- who owns

unfoldable pub owner_text : End → ℕ → ℕ → List ℕ
owner_text e l s = codes ": line " ++ decimal l ++ codes " is " ++ slot_text e s ++ codes "'s"

-- ---- all

abbrev pub want_line : Config → End → ServiceLine → Want → List ℕ
want_line c e l Nothing = []
want_line c e l (Trap n) = trap_text l n
want_line c e l (Partner t) = partner_by l t (slice_get c.lines t)
want_line c e l (Call kind) = call_text c l kind
want_line c e l (Living n) = if nat_lt n 2147483648 then living_by n (seat_in e (slot_of n)) else []
want_line c e l Any = codes ": 201784 is 0x31438, and any is 31438 decimal"
want_line c e l (Line n s) = owner_text e n s

-- the program's file, unless its name is the service's with .out
unfoldable pub file_text : ServiceLine → List ℕ
file_text l = if bytes_eq l.file (name_of l ++ codes ".out") then [] else codes " of " ++ l.file

abbrev pub details_by : Config → End → Want → Option ServiceLine → List ℕ
details_by c e w None = []
details_by c e w (Some l) = file_text l ++ want_line c e l w

-- WHAT IS TOLD of a refused call of a slot besides the place: the program, and what was wanted
unfoldable pub details_text : Config → End → ℕ → Want → List ℕ
details_text c e s w = details_by c e w (slice_get c.lines s)
