-- What the second other actor does: the calls of a list, in order. And which loop each actor has.
use Rattle.std.specs.Prelude.{◌≡◌, ◌≢◌, ◌<◌, ◌≤◌, ◌-◌, ◌⊎◌, ◌==◌, ◌&&◌, if◌then◌else◌, ℕ, zero, suc, Bool, true, false, List, [], ◌∷◌, ◌++◌, length, map, nat_lt, not, Option, Some, None}
use Rattle.mx_machine.specs.declared.events.Answer.{Answer}
use Rattle.mx_machine.specs.declared.events.Event.TheVariants as events
use Rattle.mx_machine.specs.declared.events.Refusal.{Refusal}
use Rattle.mx_machine.specs.declared.events.Refusal.TheVariants.{LogFull}
use Rattle.mx_machine.specs.declared.history.Recorded.{Recorded}
use Rattle.mx_machine.specs.declared.history.Recorded.TheVariants as recorded
use Rattle.mx_machine.specs.Rest.{at_rest}
use Rattle.mx_machine.specs.World.{World}
use Rattle.mx_cpus.specs.declared.outside.OutsideCall.{OutsideCall}
use Rattle.mx_cpus.specs.declared.outside.OutsideCall.TheVariants as calls
use Rattle.mx_cpus.specs.declared.outside.Role.{Role}
use Rattle.mx_cpus.specs.declared.outside.Role.TheVariants as roles
use Rattle.mx_cpus.specs.Seats.{SeatView, record_of}
use Rattle.mx_cpus.specs.Calls.{Follows, IsKillCall, IsRefusedCall, IsRefusedKill, IsRestCall, endpoint_now, world_after}
use Rattle.mx_proc.specs.TableState.{TableState}
use Rattle.mx_cpus.specs.Courses.{IsAsked, IsProcessorRun, IsRespawnerRun, IsTriedEvent}
use Rattle.mx_cpus.specs.Gates.{GateCall, asked_call, ended_call, seen_call}
use Rattle.mx_cpus.specs.Loops.{HasMadeTurns, HasTickedAndRespawned}

-- ---- a wait

-- the machine was at rest when the seat t saw it last
abbrev pub is_resting : World → SeatView → Bool
is_resting boot t = at_rest (world_after boot t.seen)

-- A LOOK at the machine: the seat sees its history, and whether it is at rest
abbrev pub IsLook : World → SeatView → SeatView → Type 0
IsLook boot s t = IsRestCall boot s t (is_resting boot t)

-- The seat t has seen too little to go on: fewer than n records more than the seat s had, and no rest. So the gate was
-- shown how many it has seen, and asked whether the loop goes on.
pub record IsEarly (boot : World) (WasCalled : GateCall → Type 0) (n : ℕ) (s t : SeatView)
    (goes_on : Bool) : Type 0 where
  pub few : length t.seen - length s.seen < n
  pub busy : is_resting boot t ≡ false
  pub seen : WasCalled (seen_call t.actor (length t.seen))
  pub asked : WasCalled (asked_call t.actor (length t.seen) false false goes_on)

-- looks in a row, from the seat s on, which has looked: so many times it was early, the loop went on, and the seat
-- looked again
abbrev pub AreLooks : World → (GateCall → Type 0) → ℕ → SeatView → ℕ → SeatView → Type 0
AreLooks boot WasCalled n s zero t = t ≡ s
AreLooks boot WasCalled n s (suc so_many) t =
    (u : SeatView) × AreLooks boot WasCalled n s so_many u × IsEarly boot WasCalled n s u true × IsLook boot u t

-- the seat t has seen enough: n records more than the seat s had, or the machine at rest
abbrev pub IsEnough : World → ℕ → SeatView → SeatView → Type 0
IsEnough boot n s t = (n ≤ length t.seen - length s.seen) ⊎ (is_resting boot t ≡ true)

-- A WAIT for n records, from a first look on, of which the last look is t
pub record IsWaiting (boot : World) (WasCalled : GateCall → Type 0) (n : ℕ) (s t : SeatView)
    (HasEnded : SeatView → SeatView → Type 0) : Type 0 where
  pub first : SeatView
  pub begins : IsLook boot s first
  pub so_many : ℕ
  pub looks : AreLooks boot WasCalled n first so_many t
  pub ends : HasEnded first t

-- it ends, since enough was seen
abbrev pub IsWaited : World → (GateCall → Type 0) → ℕ → SeatView → SeatView → Type 0
IsWaited boot WasCalled n s t = IsWaiting boot WasCalled n s t (IsEnough boot n)

-- the gate ends the loop
abbrev pub IsStopped : World → (GateCall → Type 0) → ℕ → SeatView → SeatView → Type 0
IsStopped boot WasCalled n s t =
    IsWaiting boot WasCalled n s t (λ first last. IsEarly boot WasCalled n first last false)

-- ---- a call

-- a kill in a slot was accepted, or refused, and not for a full history
abbrev pub IsTriedKill : World → ℕ → SeatView → SeatView → Type 0
IsTriedKill boot slot s t =
    ((e : ℕ) × (x : Answer) × IsKillCall boot slot s t e x)
    ⊎ ((e : ℕ) × (r : Refusal) × (r ≢ LogFull) × IsRefusedKill boot slot s t e r)

-- it found the history full
abbrev pub IsFullKill : World → ℕ → SeatView → SeatView → Type 0
IsFullKill boot slot s t = (e : ℕ) × IsRefusedKill boot slot s t e LogFull

-- A CALL: its event was accepted, or refused, and not for a full history; or its wait ended
abbrev pub IsMade : World → (GateCall → Type 0) → OutsideCall → SeatView → SeatView → Type 0
IsMade boot WasCalled (calls.Line l) s t = IsTriedEvent boot (events.Line l) s t
IsMade boot WasCalled (calls.Kill e) s t = IsTriedEvent boot (events.Kill e) s t
IsMade boot WasCalled (calls.KillSlot slot) s t = IsTriedKill boot slot s t
IsMade boot WasCalled calls.Tick s t = IsTriedEvent boot events.Tick s t
IsMade boot WasCalled (calls.Respawn slot) s t = IsTriedEvent boot (events.Respawn slot) s t
IsMade boot WasCalled (calls.Wait n) s t = IsWaited boot WasCalled n s t

-- a call that ends the loop: its event found the history full; or the gate ended the loop while it waited
abbrev pub IsLast : World → (GateCall → Type 0) → OutsideCall → SeatView → SeatView → Type 0
IsLast boot WasCalled (calls.Line l) s t = IsRefusedCall boot s t (events.Line l) LogFull
IsLast boot WasCalled (calls.Kill e) s t = IsRefusedCall boot s t (events.Kill e) LogFull
IsLast boot WasCalled (calls.KillSlot slot) s t = IsFullKill boot slot s t
IsLast boot WasCalled calls.Tick s t = IsRefusedCall boot s t events.Tick LogFull
IsLast boot WasCalled (calls.Respawn slot) s t = IsRefusedCall boot s t (events.Respawn slot) LogFull
IsLast boot WasCalled (calls.Wait n) s t = IsStopped boot WasCalled n s t

-- ---- a loop

-- these calls were made in order, each once, and led from the seat s to the seat t
abbrev pub AreMade : World → (GateCall → Type 0) → SeatView → List OutsideCall → SeatView → Type 0
AreMade boot WasCalled s [] t = t ≡ s
AreMade boot WasCalled s (x ∷ xs) t = (u : SeatView) × IsMade boot WasCalled x s u × AreMade boot WasCalled u xs t

-- questions in a row: so many times the gate was asked, since all calls are made, and the loop went on
abbrev pub AreAsked : World → (GateCall → Type 0) → SeatView → ℕ → SeatView → Type 0
AreAsked boot WasCalled s zero t = t ≡ s
AreAsked boot WasCalled s (suc so_many) t =
    (u : SeatView) × AreAsked boot WasCalled s so_many u × IsAsked boot WasCalled true u t true

-- the gate was asked again and again, until it ended the loop
abbrev pub IsAskedToEnd : World → (GateCall → Type 0) → SeatView → SeatView → Type 0
IsAskedToEnd boot WasCalled s t =
    (so_many : ℕ) × (u : SeatView) × AreAsked boot WasCalled s so_many u × IsAsked boot WasCalled true u t false

-- THE OUTSIDER'S LOOP from the seat s to the seat t: all calls were made, in order, and then the gate was asked until
-- it ended the loop; or those before one that ends the loop.
pub record IsOutsiderRun (boot : World) (WasCalled : GateCall → Type 0) (xs : List OutsideCall)
    (s t : SeatView) : Type 0 where
  pub earlier : List OutsideCall
  pub last : SeatView
  pub made : AreMade boot WasCalled s earlier last
  pub ends :
      ((earlier ≡ xs) × IsAskedToEnd boot WasCalled last t)
      ⊎ ((x : OutsideCall) × (later : List OutsideCall) × (xs ≡ earlier ++ x ∷ later) × IsLast boot WasCalled x last t)

-- all calls were made, in order, and then the gate was asked until it ended the loop
abbrev pub HasMadeAll : World → (GateCall → Type 0) → List OutsideCall → SeatView → SeatView → Type 0
HasMadeAll boot WasCalled xs s t =
    (last : SeatView) × AreMade boot WasCalled s xs last × IsAskedToEnd boot WasCalled last t

-- one of the calls ended the loop, after those before it were made
abbrev pub HasBrokenOff : World → (GateCall → Type 0) → List OutsideCall → SeatView → SeatView → Type 0
HasBrokenOff boot WasCalled xs s t =
    (earlier : List OutsideCall) × (x : OutsideCall) × (later : List OutsideCall) × (last : SeatView)
    × (xs ≡ earlier ++ x ∷ later) × AreMade boot WasCalled s earlier last × IsLast boot WasCalled x last t

-- THE OUTSIDER'S LOOP, by whether it is whole
abbrev pub IsOutsiderRunTo : World → (GateCall → Type 0) → List OutsideCall → SeatView → SeatView → Bool → Type 0
IsOutsiderRunTo boot WasCalled xs s t true = HasMadeAll boot WasCalled xs s t
IsOutsiderRunTo boot WasCalled xs s t false = HasBrokenOff boot WasCalled xs s t

-- what a call may record: its event, which a wait hasn't; a kill in a slot is one of the process that a table has there
abbrev pub MayRecord : OutsideCall → Recorded → Type 0
MayRecord (calls.Line l) e = e ≡ recorded.Line l
MayRecord (calls.Kill endpoint) e = e ≡ recorded.Kill endpoint
MayRecord (calls.KillSlot slot) e = (t : TableState) × (e ≡ recorded.Kill (endpoint_now t slot))
MayRecord calls.Tick e = e ≡ recorded.Tick
MayRecord (calls.Respawn slot) e = e ≡ recorded.Respawn slot
MayRecord (calls.Wait n) e = ⊥

-- records of some of these calls' events, each at most once, in the calls' order
abbrev pub AreSomeOf : List OutsideCall → List Recorded → Type 0
AreSomeOf xs [] = Unit {0}
AreSomeOf [] (e ∷ es) = ⊥
AreSomeOf (x ∷ xs) (e ∷ es) =
    (MayRecord x e × AreSomeOf xs es) ⊎ AreSomeOf xs (e ∷ es)

-- The outsider's loop took the seat s and gave the seat t: it holds what it held, and its own records are longer by
-- those of some of its calls' events, in their order, and by nothing else.
pub record HasMadeCalls (xs : List OutsideCall) (s t : SeatView) : Type 0 where
  pub follows : Follows s t
  pub held : t.held ≡ s.held
  pub events : List Recorded
  pub only : AreSomeOf xs events
  pub mine : t.mine ≡ s.mine ++ map (record_of s.actor) events

-- ---- all loops

-- which loop an actor has: the processors, then the respawner, then the outsider if there are calls to make; further
-- actors have none
abbrev pub role_of : ℕ → ℕ → List OutsideCall → Option Role
role_of actor cpus xs =
    if nat_lt actor cpus then Some roles.Processor
    else if actor == cpus then Some roles.Respawner
    else if ((actor - cpus) == 1) && not (length xs == 0) then Some roles.Outsider
    else None

-- a seat before and after a loop
abbrev pub IsDrivenAs : Role → ℕ → List OutsideCall → SeatView → SeatView → Type 0
IsDrivenAs roles.Processor ticks xs s t = HasMadeTurns s t
IsDrivenAs roles.Respawner ticks xs s t = HasTickedAndRespawned ticks s t
IsDrivenAs roles.Outsider ticks xs s t = HasMadeCalls xs s t

-- what a loop did
abbrev pub IsRunAs : Role → World → (GateCall → Type 0) → ℕ → List OutsideCall → SeatView → SeatView → Type 0
IsRunAs roles.Processor boot WasCalled ticks xs s t = IsProcessorRun boot WasCalled s t
IsRunAs roles.Respawner boot WasCalled ticks xs s t = IsRespawnerRun boot WasCalled ticks s t
IsRunAs roles.Outsider boot WasCalled ticks xs s t = IsOutsiderRun boot WasCalled xs s t

-- and then its end was reported to the gate
abbrev pub IsServedAs : Role → World → (GateCall → Type 0) → ℕ → List OutsideCall → SeatView → SeatView → Type 0
IsServedAs r boot WasCalled ticks xs s t = IsRunAs r boot WasCalled ticks xs s t × WasCalled (ended_call s.actor)

-- whether a loop made all calls that it was to make: only an outsider's has any
abbrev pub IsWholeAs : Role → World → (GateCall → Type 0) → List OutsideCall → SeatView → SeatView → Bool → Type 0
IsWholeAs roles.Outsider boot WasCalled xs s t whole = IsOutsiderRunTo boot WasCalled xs s t whole
IsWholeAs _ boot WasCalled xs s t whole = whole ≡ true

abbrev pub IsWholeIf : Option Role → World → (GateCall → Type 0) → List OutsideCall → SeatView → SeatView → Bool
    → Type 0
IsWholeIf None boot WasCalled xs s t whole = whole ≡ true
IsWholeIf (Some r) boot WasCalled xs s t whole = IsWholeAs r boot WasCalled xs s t whole

-- a seat that has no loop stays as it is
abbrev pub IsDrivenIf : Option Role → ℕ → List OutsideCall → SeatView → SeatView → Type 0
IsDrivenIf None ticks xs s t = t ≡ s
IsDrivenIf (Some r) ticks xs s t = IsDrivenAs r ticks xs s t

abbrev pub IsServedIf : Option Role → World → (GateCall → Type 0) → ℕ → List OutsideCall → SeatView → SeatView → Type 0
IsServedIf None boot WasCalled ticks xs s t = Unit {0}
IsServedIf (Some r) boot WasCalled ticks xs s t = IsServedAs r boot WasCalled ticks xs s t

-- the end of a loop was reported, if there is one
abbrev pub IsEndTold : Option Role → (GateCall → Type 0) → SeatView → Type 0
IsEndTold None WasCalled s = Unit {0}
IsEndTold (Some r) WasCalled s = WasCalled (ended_call s.actor)

-- each seat of a list, in its place
abbrev pub AreEach : (SeatView → SeatView → Type 0) → List SeatView → List SeatView → Type 0
AreEach Is [] [] = Unit {0}
AreEach Is (s ∷ ss) (t ∷ ts) = Is s t × AreEach Is ss ts
AreEach _ _ _ = ⊥

-- THE SEATS BEFORE AND AFTER ALL LOOPS, by how many processors and ticks there are, and by the outsider's calls
abbrev pub AreDrivenWith : ℕ → ℕ → List OutsideCall → List SeatView → List SeatView → Type 0
AreDrivenWith cpus ticks xs ss ts = AreEach (λ s t. IsDrivenIf (role_of s.actor cpus xs) ticks xs s t) ss ts

-- WHAT THE LOOPS DID
abbrev pub AreServedWith : World → (GateCall → Type 0) → ℕ → ℕ → List OutsideCall → List SeatView → List SeatView
    → Type 0
AreServedWith boot WasCalled cpus ticks xs ss ts =
    AreEach (λ s t. IsServedIf (role_of s.actor cpus xs) boot WasCalled ticks xs s t) ss ts

-- WHETHER ALL CALLS OF ALL LOOPS WERE MADE
abbrev pub AreWholeWith : World → (GateCall → Type 0) → ℕ → List OutsideCall → List SeatView → List SeatView → Bool
    → Type 0
AreWholeWith boot WasCalled cpus xs [] [] whole = whole ≡ true
AreWholeWith boot WasCalled cpus xs (s ∷ ss) (t ∷ ts) whole =
    (own : Bool) × (others : Bool) × (whole ≡ (own && others))
    × IsWholeIf (role_of s.actor cpus xs) boot WasCalled xs s t own × AreWholeWith boot WasCalled cpus xs ss ts others
AreWholeWith _ _ _ _ _ _ _ = ⊥
