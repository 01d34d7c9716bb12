-- What a process does, with the numbers that its partners have now (our own).
use Rattle.std.specs.Prelude.{ℕ, unwrap_or}
use Rattle.mx_proc.specs.declared.process.State.{State}
use Rattle.mx_proc.specs.declared.process.State.TheVariants as state
use Rattle.mx_proc.specs.declared.process.Partner.{Partner}
use Rattle.mx_proc.specs.declared.process.Partner.TheVariants as partner
use Rattle.mx_proc.specs.declared.process.Source.TheVariants as source
use Rattle.mx_proc.specs.TableState.{TableState, endpoint_of}
use Rattle.mx_proc.specs.Waits.{next_of}
use Rattle.mx_print_report.specs.declared.doing.Naming.{Naming}
use Rattle.mx_print_report.specs.declared.doing.Naming.TheVariants.{Endpoints, Slots}
use Rattle.mx_print_report.specs.declared.doing.Awaited.{Awaited}
use Rattle.mx_print_report.specs.declared.doing.Awaited.TheVariants as awaited
use Rattle.mx_print_report.specs.declared.doing.Doing.{Doing}
use Rattle.mx_print_report.specs.declared.doing.Doing.TheVariants as doing

-- by what number the process of a slot is printed: its endpoint, or the endpoint without its generation
abbrev pub number_of : Naming → TableState → ℕ → ℕ
number_of Endpoints t s = endpoint_of t s
number_of Slots t s = s

-- whom a process receives from
unfoldable pub awaited_of : Naming → TableState → Partner → Awaited
awaited_of by t partner.Any = awaited.Any
awaited_of by t partner.System = awaited.System
awaited_of by t (partner.Only source.Hardware) = awaited.Hardware
awaited_of by t (partner.Only source.Clock) = awaited.Clock
awaited_of by t (partner.Only (source.Slot s)) = awaited.Process (number_of by t s)

-- whom a blocked send is for
unfoldable pub receiver_of : Naming → TableState → ℕ → ℕ
receiver_of by t s = number_of by t (unwrap_or (next_of s t.waits) s)

-- WHAT THE PROCESS OF A SLOT, in a state, DOES; no process is at home once an event is over
unfoldable pub doing_of : Naming → TableState → ℕ → State → Doing
doing_of by t s state.Home = doing.Home
doing_of by t s state.Ready = doing.Ready
doing_of by t s state.Out = doing.Out
doing_of by t s state.Doomed = doing.Doomed
doing_of by t s state.Sending = doing.Sending (receiver_of by t s)
doing_of by t s state.Calling = doing.Calling (receiver_of by t s)
doing_of by t s (state.Receiving p) = doing.Receiving (awaited_of by t p)
doing_of by t s (state.Awaiting d) = doing.Awaiting (number_of by t d)
doing_of by t s (state.Down c) = doing.Down c
