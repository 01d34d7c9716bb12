-- Breakpoints, each named by a slot and a place (our own).
use Rattle.std.specs.Prelude.{ℕ, List, Option, Some, None, Result, Ok, Err, slice_get}
use Rattle.mx_aout.specs.declared.program.Program.{Program}
use Rattle.mx_app_step.specs.Service.{Service}
use Rattle.mx_boot.specs.declared.place.CodePlace.{CodePlace}
use Rattle.mx_boot.specs.declared.place.CodePlace.TheVariants.{Address, Symbol, NoName}
use Rattle.mx_machine.specs.declared.events.Refusal.TheVariants.{NoService}
use Rattle.mx_print_answers.specs.DebugError.TheVariants.{NoSymbol, TooMany}
use Rattle.mx_print_answers.specs.Breakpoint.{Breakpoint}
use Rattle.mx_print_answers.specs.Finding.{first_named}
use Rattle.mx_print_answers.specs.Points.{with_point, without_point}
use Rattle.mx_print_answers.specs.declared.refused.Refused.{Refused as Kind}
use Rattle.mx_print_answers.specs.declared.refused.Refused.TheVariants.{ByMachine, ByDebugger}

-- the address of a place: the address itself, or the value of the first symbol with the name
abbrev pub address_of_place : Program → CodePlace → Option ℕ
address_of_place p (Address at) = Some at
address_of_place p (Symbol name) = first_named p.symbols name
address_of_place p NoName = None

abbrev pub at_address : ℕ → Option ℕ → Result (ℕ × ℕ) Kind
at_address slot None = Err (ByDebugger NoSymbol)
at_address slot (Some at) = Ok (slot, at)

abbrev pub of_service : Option Service → ℕ → CodePlace → Result (ℕ × ℕ) Kind
of_service None slot place = Err (ByMachine NoService)
of_service (Some s) slot place = at_address slot (address_of_place s.program place)

-- the slot and address of a place in the program of a slot's service. The refusal is NoService if there is no
-- service, and NoSymbol if there is a service but no symbol
abbrev pub place_found : List Service → ℕ → CodePlace → Result (ℕ × ℕ) Kind
place_found services slot place = of_service (slice_get services slot) slot place

abbrev pub with_breakpoint_added : List Breakpoint → Option (List Breakpoint) → Result (Unit {0}) Kind × List Breakpoint
with_breakpoint_added points None = (Err (ByDebugger TooMany), points)
with_breakpoint_added points (Some more) = (Ok tt, more)

-- the lines `break` and `clear`: the answer or refusal, and the breakpoints after. A refusal changes nothing
abbrev pub breakpoints_after_break : List Breakpoint → Result (ℕ × ℕ) Kind → Result (Unit {0}) Kind × List Breakpoint
breakpoints_after_break points (Err r) = (Err r, points)
breakpoints_after_break points (Ok at) = with_breakpoint_added points (with_point points at.0 at.1)

abbrev pub breakpoints_after_clear : List Breakpoint → Result (ℕ × ℕ) Kind → Result (Unit {0}) Kind × List Breakpoint
breakpoints_after_clear points (Err r) = (Err r, points)
breakpoints_after_clear points (Ok at) = (Ok tt, without_point points at.0 at.1)
