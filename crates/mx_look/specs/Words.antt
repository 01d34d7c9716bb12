-- Who has a slot, and whom an endpoint names, as a trace has them (our own).
use Rattle.std.specs.Prelude.{ℕ, ◌==◌, nat_lt, if◌then◌else◌, List, [], codes, Option, Some, None}
use Rattle.std.specs.Fmt.{signed_decimal}
use Rattle.std.specs.Int.{w32, cast_signed}
use Rattle.mx_proc.specs.EndpointNumbers.{slot_of, any_endpoint, hardware_endpoint, system_endpoint, clock_endpoint}
use Rattle.mx_print_report.specs.Words.{named}
use Rattle.mx_look.specs.declared.slot_glances.SlotGlance.{SlotGlance}
use Rattle.mx_look.specs.declared.glance.Glance.{Glance}
use Rattle.mx_look.specs.Transition.{slot_in}

-- ---- who

abbrev pub who_of : SlotGlance → List ℕ
who_of g = named g.name.bytes g.endpoint

abbrev pub who_if : Option SlotGlance → List ℕ
who_if None = []
who_if (Some g) = who_of g

-- WHO has a slot
unfoldable pub who : Glance → ℕ → List ℕ
who g s = who_if (slot_in g s)

-- an endpoint that names a slot, whether its process lives or not, has the name of this
abbrev pub named_party_by : Option SlotGlance → ℕ → List ℕ
named_party_by None e = signed_decimal (cast_signed w32 e)
named_party_by (Some g) e = if nat_lt e 2147483648 then named g.name.bytes e else signed_decimal (cast_signed w32 e)

unfoldable pub named_party : Glance → ℕ → List ℕ
named_party g e = named_party_by (slot_in g (slot_of e)) e

-- WHOM AN ENDPOINT NAMES
unfoldable pub party_text : Glance → ℕ → List ℕ
party_text g e =
    if e == any_endpoint then codes "any" else
    if e == hardware_endpoint then codes "HARDWARE" else
    if e == system_endpoint then codes "SYSTEM" else
    if e == clock_endpoint then codes "CLOCK" else
    named_party g e
