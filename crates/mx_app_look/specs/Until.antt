-- On to a record in which something happens (our own).
use Rattle.std.specs.Prelude.{ℕ, ◌+◌, ◌-◌, ◌==◌, ◌&&◌, nat_le, nat_lt, Bool, true, false, if◌then◌else◌, List, [], ◌++◌, codes, length, find, Option, Some, None, slice_get}
use Rattle.std.specs.Fmt.{decimal}
use Rattle.std.specs.List.{range_with_len}
use Rattle.mx_machine.specs.declared.history.Record.{Record}
use Rattle.mx_look.specs.KernelCalls.{request_name}
use Rattle.mx_proc.specs.declared.windows.Rules.{Rules}
use Rattle.mx_walk.specs.declared.positions.Position.{Position}
use Rattle.mx_walk.specs.Walks.{Walk, world_here}
use Rattle.mx_app_look.specs.Before.{step_before, why_text}
use Rattle.mx_app_look.specs.declared.happening.Happening.{Happening}
use Rattle.mx_app_look.specs.declared.happening.Happening.TheVariants.{Call, Death, Delivery, Error}
use Rattle.mx_app_look.specs.Happenings.{happens}
use Rattle.mx_app_look.specs.Searches.{not_met}

-- ---- the slots that it is about

abbrev pub has_service : Walk → ℕ → Bool
has_service k slot = nat_lt slot (length (world_here k).services)

-- each has a service
abbrev pub has_slots : Walk → Happening → Bool
has_slots k (Call slot kind) = has_service k slot
has_slots k (Death slot) = has_service k slot
has_slots k (Delivery from to) = has_service k from && has_service k to
has_slots k (Error None) = true
has_slots k (Error (Some slot)) = has_service k slot

-- what is printed if one hasn't
abbrev pub no_service : List ℕ
no_service = codes "refused 42 NoService: until [back] death SLOT, message FROM TO, error [SLOT] or SLOT TYPE\n"

-- ---- a type in decimal whose digits are those of a call's type in hexadecimal, as 604 and 0x604

-- the name of that call, if the rules have one
abbrev pub call_by_digits : Rules → ℕ → List ℕ
call_by_digits rules kind =
    if nat_le 600 kind && nat_le kind 609 then request_name rules (kind - 600 + 1536) else []

abbrev pub is_decimal : ℕ → List ℕ
is_decimal kind = codes "type " ++ decimal kind ++ codes " is decimal: "

abbrev pub is_digits : ℕ → List ℕ → List ℕ
is_digits kind name = name ++ codes " is 0x" ++ decimal kind ++ codes "\n"

abbrev pub type_line : ℕ → List ℕ → List ℕ
type_line kind name = if length name == 0 then [] else is_decimal kind ++ is_digits kind name

-- what is printed before the search
abbrev pub type_note : Walk → Happening → List ℕ
type_note k (Call slot kind) = type_line kind (call_by_digits (world_here k).table.rules kind)
type_note k h = []

-- ---- the record that is met

abbrev pub has_by : Walk → Happening → ℕ → Option Record → Bool
has_by k h n None = false
has_by k h n (Some x) = happens h (step_before k.boot k.records n x)

-- it happens in record n + 1
abbrev pub has : Walk → Happening → ℕ → Bool
has k h n = has_by k h n (slice_get k.records n)

-- THE FIRST RECORD AFTER HERE in which it happens, of those that can be made
abbrev pub met : Walk → Happening → Option ℕ
met k h = find (has k h) (range_with_len k.here.records (k.last.records - k.here.records))

-- ---- THE HALT, and what is printed before the place

abbrev pub past : ℕ → Position
past n = record { records = n + 1; steps = 0 }

abbrev pub halt_after : Walk → Option ℕ → Position × List ℕ
halt_after k None = (k.last, not_met)
halt_after k (Some n) = (past n, why_text (record k { here = past n }))

-- right after the record that is met, with what it did; else at the last position
abbrev pub until_halt : Walk → Happening → Position × List ℕ
until_halt k h = halt_after k (met k h)
