-- What a call of the shared machine does to the caller's seat.
use Rattle.std.specs.Prelude.{◌≡◌, ◌&&◌, ℕ, nat_lt, Bool, false, List, [], ◌∷◌, ◌++◌, length, map, Option, Some, None, Ok, replicate, if◌then◌else◌}
use Rattle.std.specs.Option.{option_map}
use mathlib.Core.List.{IsPrefix}
use Rattle.atomic_table.specs.Seated.{TableId}
use Rattle.mx_proc.specs.declared.windows.Rules.TheVariants.{Lenient}
use Rattle.mx_proc.specs.States.{is_down}
use Rattle.mx_proc.specs.TableState.{TableState, endpoint_of, process_at}
use Rattle.mx_machine.specs.declared.events.Answer.{Answer}
use Rattle.mx_machine.specs.declared.events.Answer.TheVariants.{Returned}
use Rattle.mx_machine.specs.declared.events.Event.{Event}
use Rattle.mx_machine.specs.declared.events.Event.TheVariants as events
use Rattle.mx_machine.specs.declared.events.Refusal.{Refusal}
use Rattle.mx_machine.specs.declared.history.Record.{Record}
use Rattle.mx_machine.specs.declared.history.Recorded.{Recorded}
use Rattle.mx_machine.specs.declared.history.Recorded.TheVariants as recorded
use Rattle.mx_machine.specs.declared.holding.Out.{Out}
use Rattle.mx_machine.specs.Boot.{world_at_boot_with}
use Rattle.mx_machine.specs.History.{AreAccepted, BootAndHistory, events_of, events_of_history, part_of, replay, world_after_events}
use Rattle.mx_machine.specs.Move.{event_refusal, move}
use Rattle.mx_machine.specs.Rest.{at_rest}
use Rattle.mx_machine.specs.World.{World, HeldProcess, actors, held_by}
use Rattle.mx_machine.specs.KernelState.{recorded_as}
use Rattle.mx_spool.specs.Spools.{IsSpoolOf, SpoolView}
use Rattle.mx_loan.specs.Rule.{lent_to}
use Rattle.mx_loan.specs.Seats.{DeskView, SeatView, LoanView, record_of}

-- ---- names

abbrev pub unnamed_table : TableId
unnamed_table = record { words = 0; slots = 0; views_name = 0; atom = 0; block = 0; offset = 0; slot_names = [] }

abbrev pub unnamed_boot : World
unnamed_boot = world_at_boot_with Lenient [] 0 0 0

-- ---- the world after a history

-- the world of a machine after a history
abbrev pub world_after : World → List Record → World
world_after boot history = replay (record { boot = boot; history = history })

-- what each processor was lent
abbrev pub out_of_lent : Option HeldProcess → Option Out
out_of_lent None = None
out_of_lent (Some l) = Some l.out

abbrev pub outs_of : World → List (Option Out)
outs_of w = map out_of_lent w.cpus

-- the desk of a kernel: its history is the kernel's, and it lends what the kernel's world shows as out
abbrev pub desk_beside : TableId → BootAndHistory → DeskView
desk_beside z k = record { table = z; history = k.history; lent = outs_of (replay k) }

-- WHAT ALWAYS HOLDS UNDER THE LOCK: the kernel was booted so, the table has a word for each actor, the desk agrees with
-- the kernel, and the spool has all that its history writes to the console. That the kernel is at the replay of its
-- history is what `replay` means of a kernel.
abbrev pub IsLocked : TableId → World → BootAndHistory → DeskView → SpoolView → Type 0
IsLocked z boot k d s =
    (k.boot ≡ boot) × (z.words ≡ actors boot) × (d ≡ desk_beside z k) × IsSpoolOf k s

-- ---- calls

-- t is the seat of the actor of s, later: it has seen no less, and its own records are all of its actor's that it
-- has seen
pub record Follows (s t : SeatView) : Type 0 where
  pub table : t.table ≡ s.table
  pub actor : t.actor ≡ s.actor
  pub seen : IsPrefix s.seen t.seen
  pub own : t.mine ≡ part_of t.seen t.actor

-- every event of this history is accepted, from the boot on
abbrev pub IsAcceptedHistory : World → List Record → Type 0
IsAcceptedHistory boot history = AreAccepted boot (events_of_history history)

-- a record is of the event that it ends with, and of the steps before it, which a return counts
abbrev pub steps_of : ℕ → Recorded → List (ℕ × Event)
steps_of a recorded.Take = []
steps_of a (recorded.Back n) = replicate n (a, events.Step)
steps_of a (recorded.Line l) = []
steps_of a recorded.Tick = []
steps_of a (recorded.Kill e) = []
steps_of a (recorded.Respawn s) = []

abbrev pub event_of : Recorded → Event
event_of recorded.Take = events.Take
event_of (recorded.Back n) = events.Back
event_of (recorded.Line l) = events.Line l
event_of recorded.Tick = events.Tick
event_of (recorded.Kill e) = events.Kill e
event_of (recorded.Respawn s) = events.Respawn s

-- A CALL THAT WAS ACCEPTED took the seat s and gave the seat t. It recorded this event: the seat's own records are
-- longer by it, and what was seen ends with it. All that was seen is accepted from the boot on. And at the replay of
-- what was seen before it, after the steps that a return counts, the table's move gives the answer, and the replay of
-- what is seen now.
pub record IsAcceptedCall (boot : World) (s t : SeatView) (e : Recorded) (holding : Option Out)
    (IsAnswered : World → Answer → Type 0) : Type 0 where
  pub follows : Follows s t
  pub history : IsAcceptedHistory boot t.seen
  pub mine : t.mine ≡ s.mine ++ record_of s.actor e ∷ []
  pub held : t.held ≡ holding
  pub before : List Record
  pub ends : t.seen ≡ before ++ record_of s.actor e ∷ []
  pub later : IsPrefix s.seen before
  pub allowed : AreAccepted (world_after boot before) (events_of s.actor e)
  pub answer : Answer
  pub moves : move (world_after_events (world_after boot before) (steps_of s.actor e)) s.actor (event_of e)
      ≡ (Ok answer, world_after boot t.seen)
  pub answered : IsAnswered (world_after boot before) answer

-- A CALL THAT WAS REFUSED recorded nothing, and the table refuses the event so at the replay of what is seen now, all
-- of which is accepted from the boot on.
pub record IsRefusedCall (boot : World) (s t : SeatView) (e : Event) (r : Refusal) : Type 0 where
  pub follows : Follows s t
  pub history : IsAcceptedHistory boot t.seen
  pub mine : t.mine ≡ s.mine
  pub held : t.held ≡ s.held
  pub refused : event_refusal (world_after boot t.seen) s.actor e ≡ Some r

-- an event that any actor may do was accepted and answered
abbrev pub IsAnsweredCall : World → SeatView → SeatView → Event → Answer → Type 0
IsAnsweredCall boot s t e x = IsAcceptedCall boot s t (recorded_as e) s.held (λ w answer. answer ≡ x)

-- it was made at this world
abbrev pub IsAnsweredHere : World → World → SeatView → SeatView → Event → Answer → Type 0
IsAnsweredHere boot here s t e x =
    IsAcceptedCall boot s t (recorded_as e) s.held (λ w answer. (answer ≡ x) × (w ≡ here))

-- the endpoint of the process that a slot has; a number that is no slot's is its own, and names nobody
abbrev pub endpoint_now : TableState → ℕ → ℕ
endpoint_now t slot = if nat_lt slot (length t.slots) then endpoint_of t slot else slot

-- A KILL IN A SLOT was accepted and answered: of the process that the slot had right before it
abbrev pub IsKillCall : World → ℕ → SeatView → SeatView → ℕ → Answer → Type 0
IsKillCall boot slot s t e x =
    IsAcceptedCall boot s t (recorded.Kill e) s.held (λ w answer. (answer ≡ x) × (e ≡ endpoint_now w.table slot))

-- it was refused: the kill of the process that the slot has then
abbrev pub IsRefusedKill : World → ℕ → SeatView → SeatView → ℕ → Refusal → Type 0
IsRefusedKill boot slot s t e r =
    IsRefusedCall boot s t (events.Kill e) r × (e ≡ endpoint_now (world_after boot t.seen).table slot)

-- the loan is the actor's, has made no step yet, and is what the table lends there
pub record IsLentAt (w : World) (a : ℕ) (l : LoanView) : Type 0 where
  pub actor : l.actor ≡ a
  pub fresh : l.out ≡ l.lent
  pub lends : (x : HeldProcess) × (held_by w a ≡ Some x) × (x.out ≡ l.lent)

-- a take was accepted: the loan is what the table lends after it
abbrev pub IsTakeCall : World → SeatView → SeatView → LoanView → Type 0
IsTakeCall boot s t l =
    IsAcceptedCall boot s t recorded.Take (Some l.lent) (λ w answer. Unit {0})
    × IsLentAt (world_after boot t.seen) t.actor l

-- a loan was given back: the record has the loan's count, and before its steps the table shows as out what was lent
abbrev pub IsGiveCall : World → SeatView → SeatView → LoanView → Type 0
IsGiveCall boot s t l =
    IsAcceptedCall boot s t (recorded.Back l.out.count) None
    (λ w answer. (answer ≡ Returned l.out.count) × (lent_to (outs_of w) s.actor ≡ Some l.lent))

-- whether there is such a slot, and its process is dead
abbrev pub is_dead : World → Option ℕ → Bool
is_dead w None = false
is_dead w (Some slot) = nat_lt slot (length w.table.slots) && is_down (process_at w.table slot).state

-- the slot whose process a processor holds
abbrev pub slot_of : World → ℕ → Option ℕ
slot_of w a = option_map (λ (l : HeldProcess). l.slot) (held_by w a)

-- THE END OF A TURN, whose return is the last that t has seen: whether the process that came back is dead then
abbrev pub EndsDead : World → SeatView → Bool → Type 0
EndsDead boot t has_died =
    (before : List Record) × (n : ℕ) × (t.seen ≡ before ++ record_of t.actor (recorded.Back n) ∷ [])
    × (has_died ≡ is_dead (world_after boot t.seen) (slot_of (world_after boot before) t.actor))

-- the loan is what this seat holds
abbrev pub IsLoanOf : SeatView → LoanView → Type 0
IsLoanOf s l = (l.actor ≡ s.actor) × (s.held ≡ Some l.lent)

-- the own records of t and what it holds are those of s; it may have seen more
abbrev pub IsSameSeat : SeatView → SeatView → Type 0
IsSameSeat s t = (t.mine ≡ s.mine) × (t.held ≡ s.held)

-- A QUESTION whether the machine is at rest recorded nothing. It is answered for the replay of what is seen now, all of
-- which is accepted from the boot on; and what the seat holds is what that world shows as out.
pub record IsRestCall (boot : World) (s t : SeatView) (rest : Bool) : Type 0 where
  pub follows : Follows s t
  pub history : IsAcceptedHistory boot t.seen
  pub mine : t.mine ≡ s.mine
  pub held : t.held ≡ s.held
  pub lent : t.held ≡ lent_to (outs_of (world_after boot t.seen)) t.actor
  pub answered : rest ≡ at_rest (world_after boot t.seen)

-- what a seat shows is in this history
pub record StandsIn (history : List Record) (s : SeatView) : Type 0 where
  pub seen : IsPrefix s.seen history
  pub mine : s.mine ≡ part_of history s.actor
