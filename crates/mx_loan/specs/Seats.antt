-- What contracts see of a desk, a seat and a loan.
use Rattle.std.specs.Prelude.{◌≡◌, ◌<◌, ℕ, Bool, if◌then◌else◌, List, [], ◌∷◌, ◌++◌, Option, Some, None, slice_set, replicate, zero, suc}
use mathlib.Core.List.{IsPrefix}
use Rattle.atomic_table.specs.Seated.{TableId}
use Rattle.atomic_table.specs.Table.{Me}
use Rattle.mx_machine.specs.History.{part_of}
use Rattle.mx_machine.specs.declared.history.Record.{Record}
use Rattle.mx_machine.specs.declared.history.Recorded.{Recorded}
use Rattle.mx_machine.specs.declared.history.Recorded.TheVariants.{Take, Back}
use Rattle.mx_machine.specs.declared.holding.Out.{Out}
use Rattle.mx_machine.specs.Held.{IsRunOf}
use Rattle.mx_machine.specs.Stop.TheVariants.{Spent}
use Rattle.mx_image.specs.Run.{run_of}
use Rattle.mx_loan.specs.declared.ghost_value.Ghost.{Ghost}
use Rattle.mx_loan.specs.declared.knowledge.Announcement.{Announcement}
use Rattle.mx_loan.specs.declared.knowledge.Knowledge.{Knowledge}
use Rattle.mx_loan.specs.Rule.{actor_half, kernel_half, lent_to, word_at_rest}

-- A DESK: the history so far, and what each processor is lent, as it was lent
pub record DeskView : Type 0 where
  pub table : TableId
  pub history : List Record
  pub lent : List (Option Out)

-- AN ACTOR'S SEAT: its own records, the history as it has seen it, and what it holds, as it was lent
pub record SeatView : Type 0 where
  pub table : TableId
  pub actor : ℕ
  pub mine : List Record
  pub seen : List Record
  pub held : Option Out

-- A LOAN: whose it is, what was lent, and what has become of it. The budget, the count and the stop are the `Out`s'.
pub record LoanView : Type 0 where
  pub actor : ℕ
  pub lent : Out
  pub out : Out

-- ---- what always holds of them

-- a process as it is lent: no step of it is counted, and it hasn't stopped
abbrev pub HasMadeNoStep : Out → Type 0
HasMadeNoStep o = (o.count ≡ 0) × (o.stop ≡ Spent)

-- a loan's process is what was lent, after a run of the steps that it counts; and what was lent had made no step
abbrev pub IsLoan : Out → Out → Type 0
IsLoan lent out = IsRunOf lent out × HasMadeNoStep lent

-- what `IsLoan` means for the image only: the steps that are counted lead from the image as it was lent to the
-- image, and to the stop of the last of them
pub record IsAdvanced (lent out : Out) : Type 0 where
  pub image : out.image ≡ (run_of out.count lent.image).image
  pub count : out.count ≡ (run_of out.count lent.image).count
  pub stop : out.stop ≡ (run_of out.count lent.image).stop

-- an actor's half of the table's view, as a seat
abbrev pub seat_of : TableId → ℕ → Knowledge → SeatView
seat_of z a v = record { table = z; actor = a; mine = v.mine; seen = v.seen; held = v.held }

-- a seat has only its actor's half: its word is 2 if it holds something, and its own records are all of its actor's
-- that it has seen
abbrev pub IsActorSeat : TableId → ℕ → Bool → Me (Ghost Announcement) Knowledge → Type 0
IsActorSeat z a holds me =
    (me ≡ (actor_half me.0, [])) × (me.0.actor ≡ a) × (a < z.words)
    × (word_at_rest me.0.held ≡ (if holds then 2 else 0)) × (me.0.mine ≡ part_of me.0.seen a)

-- the kernel's half, as a desk
abbrev pub desk_of : TableId → Knowledge → DeskView
desk_of z v = record { table = z; history = v.history; lent = v.lent }

-- it has only the kernel's half
abbrev pub IsKernelSeat : Me (Ghost Announcement) Knowledge → Type 0
IsKernelSeat me = me ≡ (kernel_half me.0, [])

-- ---- records

abbrev pub record_of : ℕ → Recorded → Record
record_of a e = record { actor = a; event = e }

abbrev pub take_record : ℕ → Record
take_record a = record_of a Take

abbrev pub back_record : ℕ → ℕ → Record
back_record a n = record_of a (Back n)

-- ---- what the calls do

-- the desk after a record of one actor, which is lent this from then on
abbrev pub desk_after_loan : DeskView → Record → Option Out → DeskView
desk_after_loan d r x = record { table = d.table; history = d.history ++ r ∷ []; lent = slice_set d.lent r.actor x }

-- the seat after its own record, by which it sees all of the history and holds this
abbrev pub seat_after_record : SeatView → DeskView → Record → Option Out → SeatView
seat_after_record s d r x =
    record { table = s.table; actor = s.actor; mine = s.mine ++ r ∷ []; seen = d.history; held = x }

abbrev pub desk_after_take : DeskView → ℕ → Out → DeskView
desk_after_take d a o = desk_after_loan d (take_record a) (Some o)

abbrev pub seat_after_take : SeatView → DeskView → Out → SeatView
seat_after_take s d o = seat_after_record s d (take_record s.actor) (Some o)

-- it came back after n steps
abbrev pub desk_after_back : DeskView → ℕ → ℕ → DeskView
desk_after_back d a n = desk_after_loan d (back_record a n) None

abbrev pub seat_after_back : SeatView → DeskView → ℕ → SeatView
seat_after_back s d n = seat_after_record s d (back_record s.actor n) None

-- an event that changes no loan
abbrev pub desk_after_event : DeskView → ℕ → Recorded → DeskView
desk_after_event d a e = record { table = d.table; history = d.history ++ record_of a e ∷ []; lent = d.lent }

abbrev pub seat_after_event : SeatView → DeskView → Recorded → SeatView
seat_after_event s d e = seat_after_record s d (record_of s.actor e) s.held

-- the seat when it has seen this history
abbrev pub seat_seeing : SeatView → List Record → SeatView
seat_seeing s h = record { table = s.table; actor = s.actor; mine = s.mine; seen = h; held = s.held }

abbrev pub new_loan : ℕ → Out → LoanView
new_loan a o = record { actor = a; lent = o; out = o }

-- the seat is one of the desk's: what it has seen begins the history, its own records are all of its actor's there,
-- and it holds what the desk lends it
abbrev pub IsSeatOf : SeatView → DeskView → Type 0
IsSeatOf s d = IsPrefix s.seen d.history × (s.mine ≡ part_of d.history s.actor) × (s.held ≡ lent_to d.lent s.actor)

-- ---- a new table

-- a desk with an empty history, which lends nothing
abbrev pub empty_desk : TableId → ℕ → DeskView
empty_desk z cpus = record { table = z; history = []; lent = replicate cpus None }

abbrev pub new_seat : TableId → ℕ → SeatView
new_seat z a = record { table = z; actor = a; mine = []; seen = []; held = None }

-- the seats of the actors below n, in order
abbrev pub new_seats : TableId → ℕ → List SeatView
new_seats z zero = []
new_seats z (suc n) = new_seats z n ++ new_seat z n ∷ []
