-- What the loops of actors do, call by call. WasCalled holds of the calls of the gate that were made.
use Rattle.std.specs.Prelude.{◌≡◌, ◌≢◌, ◌<◌, ◌≤◌, ◌+◌, ◌-◌, ◌⊎◌, ◌^◌, ℕ, zero, suc, min, nat_lt, Bool, true, false, List, [], ◌∷◌, length}
use Rattle.mx_machine.specs.declared.events.Answer.{Answer}
use Rattle.mx_machine.specs.declared.events.Event.{Event}
use Rattle.mx_machine.specs.declared.events.Event.TheVariants as events
use Rattle.mx_machine.specs.declared.events.Refusal.{Refusal}
use Rattle.mx_machine.specs.declared.events.Refusal.TheVariants.{LogFull}
use Rattle.mx_machine.specs.Held.{held_run}
use Rattle.mx_machine.specs.World.{World}
use Rattle.mx_cpus.specs.Seats.{SeatView, LoanView}
use Rattle.mx_cpus.specs.Calls.{IsAnsweredCall, IsGiveCall, IsRefusedCall, IsRestCall, IsTakeCall}
use Rattle.mx_cpus.specs.Gates.{GateCall, held_call, given_call, asked_call, ended_call, seen_call, stops_call}

-- ---- a question

-- The machine was asked whether it is at rest. Then the gate was shown how many records the seat has seen, and asked,
-- with that answer and with whether the actor's own work is done, whether its loop goes on.
pub record IsAsked (boot : World) (WasCalled : GateCall → Type 0) (is_done : Bool) (s t : SeatView)
    (goes_on : Bool) : Type 0 where
  pub rest : Bool
  pub rests : IsRestCall boot s t rest
  pub seen : WasCalled (seen_call s.actor (length t.seen))
  pub asked : WasCalled (asked_call s.actor (length t.seen) rest is_done goes_on)

-- ---- a processor

-- the number of a turn, by how many takes were accepted before it. It has 64 bits, and stays at the largest
abbrev pub turn_number : ℕ → ℕ
turn_number n = min n (2 ^ 64 - 1)

-- more steps than any budget has
abbrev pub longest_run : ℕ
longest_run = 2 ^ 32 - 1

-- A TURN, which n accepted takes came before: a take, the gate's `held`, a run until the budget is spent or the process
-- stops, the return of what was run, and the gate's `given`; and it was shown how many records the seat has seen then.
pub record IsTurn (boot : World) (WasCalled : GateCall → Type 0) (n : ℕ) (s t : SeatView) : Type 0 where
  pub taken : SeatView
  pub lent : LoanView
  pub back : LoanView
  pub takes : IsTakeCall boot s taken lent
  pub held : WasCalled (held_call s.actor (turn_number n))
  pub runs : back.out ≡ (held_run longest_run lent.out).1
  pub gives : IsGiveCall boot taken t back
  pub given : WasCalled (given_call s.actor)
  pub seen : WasCalled (seen_call s.actor (length t.seen))

-- A take was refused, and not for a full history; so the gate was asked. A processor has no work of its own.
pub record IsWait (boot : World) (WasCalled : GateCall → Type 0) (s t : SeatView) (goes_on : Bool) : Type 0 where
  pub seat : SeatView
  pub refusal : Refusal
  pub takes : IsRefusedCall boot s seat events.Take refusal
  pub other : refusal ≢ LogFull
  pub asks : IsAsked boot WasCalled true seat t goes_on

-- a turn, after which the gate was asked whether it stops the loop
abbrev pub IsTurnTo : World → (GateCall → Type 0) → ℕ → SeatView → SeatView → Bool → Type 0
IsTurnTo boot WasCalled n s t stops = IsTurn boot WasCalled n s t × WasCalled (stops_call s.actor stops)

-- one thing more in a processor's loop, after n turns: a turn or a wait, after which the loop went on
abbrev pub IsOneMore : World → (GateCall → Type 0) → ℕ → SeatView → ℕ → SeatView → Type 0
IsOneMore boot WasCalled n s m t =
    ((m ≡ n + 1) × IsTurnTo boot WasCalled n s t false) ⊎ ((m ≡ n) × IsWait boot WasCalled s t true)

-- the same, by the number that the next turn has
abbrev pub IsOneMoreBy : World → (GateCall → Type 0) → ℕ → SeatView → SeatView → ℕ → Type 0
IsOneMoreBy boot WasCalled n s t next = (m : ℕ) × IsOneMore boot WasCalled n s m t × (next ≡ turn_number m)

-- what ends a processor's loop, after n turns: a take is refused for a full history, or the gate ends it in a wait or
-- after a turn
abbrev pub IsLastTurn : World → (GateCall → Type 0) → ℕ → SeatView → SeatView → Type 0
IsLastTurn boot WasCalled n s t =
    IsRefusedCall boot s t events.Take LogFull
    ⊎ (IsWait boot WasCalled s t false ⊎ IsTurnTo boot WasCalled n s t true)

-- a processor's loop so far, from the seat s on: so many turns and waits in a row, of which n are turns, led to the
-- seat t
abbrev pub AreTurns : World → (GateCall → Type 0) → SeatView → ℕ → ℕ → SeatView → Type 0
AreTurns boot WasCalled s zero n t = (n ≡ 0) × (t ≡ s)
AreTurns boot WasCalled s (suc so_many) n t =
    (m : ℕ) × (u : SeatView) × AreTurns boot WasCalled s so_many m u × IsOneMore boot WasCalled m u n t

-- A PROCESSOR'S LOOP from the seat s to the seat t: after some turns and waits a take is refused for a full history, or
-- the gate ends it.
pub record IsProcessorRun (boot : World) (WasCalled : GateCall → Type 0) (s t : SeatView) : Type 0 where
  pub so_many : ℕ
  pub turns : ℕ
  pub last : SeatView
  pub course : AreTurns boot WasCalled s so_many turns last
  pub ends : IsLastTurn boot WasCalled turns last t

-- ---- the respawner

-- an event was accepted, or refused, and not for a full history
abbrev pub IsTriedEvent : World → Event → SeatView → SeatView → Type 0
IsTriedEvent boot e s t =
    ((x : Answer) × IsAnsweredCall boot s t e x)
    ⊎ ((r : Refusal) × (r ≢ LogFull) × IsRefusedCall boot s t e r)

-- a slot was respawned, or this was refused, and not for a full history
abbrev pub IsTried : World → ℕ → SeatView → SeatView → Type 0
IsTried boot slot s t = IsTriedEvent boot (events.Respawn slot) s t

-- a sweep so far, from the seat s on: the first n slots were tried, in turn
abbrev pub AreTried : World → SeatView → ℕ → SeatView → Type 0
AreTried boot s zero t = t ≡ s
AreTried boot s (suc n) t = (u : SeatView) × AreTried boot s n u × IsTried boot n u t

-- how many slots a machine may have
abbrev pub slots : ℕ
slots = 32

-- A SWEEP: each slot was tried, in turn
abbrev pub IsSweep : World → SeatView → SeatView → Type 0
IsSweep boot s t = AreTried boot s slots t

-- a sweep that found the history full at one of the slots
abbrev pub IsSweepToFull : World → SeatView → SeatView → Type 0
IsSweepToFull boot s t =
    (n : ℕ) × (u : SeatView) × (n < slots) × AreTried boot s n u × IsRefusedCall boot u t (events.Respawn n) LogFull

-- one tick, if some are left
abbrev pub IsTicked : World → ℕ → SeatView → SeatView → Type 0
IsTicked boot zero s t = t ≡ s
IsTicked boot (suc n) s t = (x : Answer) × IsAnsweredCall boot s t events.Tick x

-- a tick that found the history full
abbrev pub IsTickToFull : World → ℕ → SeatView → SeatView → Type 0
IsTickToFull boot zero s t = ⊥
IsTickToFull boot (suc n) s t = IsRefusedCall boot s t events.Tick LogFull

-- A ROUND with some ticks left: one of them, if there are any, and a sweep
abbrev pub IsRound : World → ℕ → SeatView → SeatView → Type 0
IsRound boot left s t = (u : SeatView) × IsTicked boot left s u × IsSweep boot u t

-- a round that found the history full
abbrev pub IsRoundToFull : World → ℕ → SeatView → SeatView → Type 0
IsRoundToFull boot left s t =
    IsTickToFull boot left s t ⊎ ((u : SeatView) × IsTicked boot left s u × IsSweepToFull boot u t)

-- a round, and a question to the gate after it. The respawner's work is done once no tick is left
abbrev pub IsRoundAsked : World → (GateCall → Type 0) → ℕ → SeatView → SeatView → Bool → Type 0
IsRoundAsked boot WasCalled left s t goes_on =
    (u : SeatView) × IsRound boot left s u × IsAsked boot WasCalled (nat_lt left 2) u t goes_on

-- what ends a respawner's loop: a round finds the history full, or the gate ends it
abbrev pub IsLastRound : World → (GateCall → Type 0) → ℕ → SeatView → SeatView → Type 0
IsLastRound boot WasCalled left s t = IsRoundToFull boot left s t ⊎ IsRoundAsked boot WasCalled left s t false

-- a respawner's loop so far, from the seat s on: n rounds in a row, after each of which the gate was asked, and the
-- loop went on, led to the seat t
abbrev pub AreRounds : World → (GateCall → Type 0) → ℕ → SeatView → ℕ → SeatView → Type 0
AreRounds boot WasCalled ticks s zero t = t ≡ s
AreRounds boot WasCalled ticks s (suc n) t =
    (u : SeatView) × AreRounds boot WasCalled ticks s n u × IsRoundAsked boot WasCalled (ticks - n) u t true

-- THE RESPAWNER'S LOOP from the seat s to the seat t: after some rounds one finds the history full, or the gate ends
-- it.
pub record IsRespawnerRun (boot : World) (WasCalled : GateCall → Type 0) (ticks : ℕ) (s t : SeatView) : Type 0 where
  pub rounds : ℕ
  pub last : SeatView
  pub course : AreRounds boot WasCalled ticks s rounds last
  pub ends : IsLastRound boot WasCalled (ticks - rounds) last t

-- ---- all loops

-- THE LOOP OF AN ACTOR, by how many processors and how many ticks there are: a processor's, or the respawner's; and
-- then its end was reported to the gate.
pub record IsServed (boot : World) (WasCalled : GateCall → Type 0) (cpus ticks : ℕ) (s t : SeatView) : Type 0 where
  pub processor : s.actor < cpus → IsProcessorRun boot WasCalled s t
  pub respawner : s.actor ≡ cpus → IsRespawnerRun boot WasCalled ticks s t
  pub told : WasCalled (ended_call s.actor)

-- each seat of a list that has a loop was served, in its place
abbrev pub AreServed : World → (GateCall → Type 0) → ℕ → ℕ → List SeatView → List SeatView → Type 0
AreServed boot WasCalled cpus ticks [] [] = Unit {0}
AreServed boot WasCalled cpus ticks (s ∷ ss) (t ∷ ts) =
    (s.actor ≤ cpus → IsServed boot WasCalled cpus ticks s t) × AreServed boot WasCalled cpus ticks ss ts
AreServed _ _ _ _ _ _ = ⊥
