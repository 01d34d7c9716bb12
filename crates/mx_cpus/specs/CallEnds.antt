-- How a call of the outsider ended, by what its loop does then.
use Rattle.std.specs.Prelude.{ℕ, Bool, true, false}
use Rattle.mx_machine.specs.declared.events.Event.{Event}
use Rattle.mx_machine.specs.declared.events.Refusal.TheVariants.{LogFull}
use Rattle.mx_machine.specs.World.{World}
use Rattle.mx_cpus.specs.Seats.{SeatView}
use Rattle.mx_cpus.specs.Calls.{IsRefusedCall}
use Rattle.mx_cpus.specs.Courses.{IsTriedEvent}
use Rattle.mx_cpus.specs.Gates.{GateCall}
use Rattle.mx_cpus.specs.Outsiders.{IsFullKill, IsLast, IsMade, IsStopped, IsTriedKill, IsWaited}
use Rattle.mx_cpus.specs.declared.outside.OutsideCall.{OutsideCall}
use Rattle.mx_cpus.specs.declared.calling.CallEnd.{CallEnd}
use Rattle.mx_cpus.specs.declared.calling.CallEnd.TheVariants.{Made, Full, Stopped}

abbrev pub IsEventTo : World → Event → SeatView → SeatView → CallEnd → Type 0
IsEventTo boot e s t Made = IsTriedEvent boot e s t
IsEventTo boot e s t Full = IsRefusedCall boot s t e LogFull
IsEventTo boot e s t Stopped = ⊥

abbrev pub IsKillTo : World → ℕ → SeatView → SeatView → CallEnd → Type 0
IsKillTo boot slot s t Made = IsTriedKill boot slot s t
IsKillTo boot slot s t Full = IsFullKill boot slot s t
IsKillTo boot slot s t Stopped = ⊥

abbrev pub IsWaitTo : World → (GateCall → Type 0) → ℕ → SeatView → SeatView → CallEnd → Type 0
IsWaitTo boot WasCalled n s t Made = IsWaited boot WasCalled n s t
IsWaitTo boot WasCalled n s t Full = ⊥
IsWaitTo boot WasCalled n s t Stopped = IsStopped boot WasCalled n s t

abbrev pub IsCallTo : World → (GateCall → Type 0) → OutsideCall → SeatView → SeatView → CallEnd → Type 0
IsCallTo boot WasCalled x s t Made = IsMade boot WasCalled x s t
IsCallTo boot WasCalled x s t Full = IsLast boot WasCalled x s t
IsCallTo boot WasCalled x s t Stopped = IsLast boot WasCalled x s t

-- what the gate answered last
abbrev pub goes_on_after : CallEnd → Bool
goes_on_after Stopped = false
goes_on_after _ = true
