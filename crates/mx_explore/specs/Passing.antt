-- RUNS IN WHICH OPEN OFFERS ARE PASSED: the order of turns, departed from in some places (our own).
use Rattle.std.specs.Prelude.{ℕ, zero, suc, ◌-◌, ◌==◌, ◌≡◌, nat_lt, ◌&&◌, ◌||◌, if◌then◌else◌, Bool, true, false, List, [], ◌∷◌, ◌++◌, drop, fold, length, map, Option, Some, None, slice_get}
use Rattle.std.specs.List.{range_with_len}
use Rattle.mx_walk.specs.Kept.{kept_of}
use Rattle.mx_machine.specs.declared.events.Event.{Event}
use Rattle.mx_turns.specs.declared.outside.OutsideLine.{OutsideLine}
use Rattle.mx_machine.specs.declared.events.Event.TheVariants as events
use Rattle.mx_machine.specs.History.{BootAndHistory}
use Rattle.mx_machine.specs.World.{World}
use Rattle.mx_turns.specs.Turns.{is_over, next_now, offered, run_of, world_after}
use Rattle.mx_turns.specs.declared.turns.Ending.{Ending}
use Rattle.mx_turns.specs.declared.turns.Ending.TheVariants.{Rest, Turns, Full}
use Rattle.mx_explore.specs.Offers.{is_outside, open_back, open_outside, open_respawn, open_take}
use Rattle.mx_explore.specs.declared.offers.Offer.{Offer}
use Rattle.mx_explore.specs.declared.offers.Offer.TheVariants.{Take, Back, Outside, Respawn}
use Rattle.mx_explore.specs.declared.passing.Departure.{Departure}
use Rattle.mx_explore.specs.declared.passing.Met.{Met}
use Rattle.mx_explore.specs.declared.passing.TurnStart.{TurnStart}

-- ---- departures

-- Where a run is in its schedule.
pub record Standing : Type 0 where
  -- the departures that it hasn't come to, and for how many turns more an outside event waits
  pub ahead : List Departure
  pub waits : ℕ
  -- the open offers that it met, and how many of these aren't after the last departure
  pub met : List Met
  pub after : ℕ
  -- whether each turn in which an event went on to wait had a record before it
  pub kept : Bool

-- at the beginning of a run
abbrev pub standing_at_boot : List Departure → Standing
standing_at_boot ds = record { ahead = ds; waits = 0; met = []; after = 0; kept = true }

-- an outside event goes on waiting, for a departure that began at an earlier offer
abbrev pub goes_on : Standing → Offer → Bool
goes_on s x = nat_lt 0 s.waits && is_outside x

-- a departure has this number, and lasts for one turn, or for several if the offer is the outside's
abbrev pub is_at : ℕ → Offer → Departure → Bool
is_at n x d = (d.at == n) && ((d.turns == 1) || nat_lt 1 d.turns && is_outside x)

-- a departure begins at the offer that is met next
abbrev pub begins_by : Standing → Offer → Option Departure → Bool
begins_by s x None = false
begins_by s x (Some d) = (s.waits == 0) && is_at (length s.met) x d

abbrev pub begins : Standing → Offer → Bool
begins s x = begins_by s x (slice_get s.ahead 0)

-- AN OPEN OFFER IS PASSED
abbrev pub passes : Standing → Offer → Bool
passes s x = goes_on s x || begins s x

abbrev pub turns_of : Option Departure → ℕ
turns_of None = 0
turns_of (Some d) = d.turns

-- where the run is after it met this offer
abbrev pub noted : Standing → Met → Standing
noted s m =
    let met = s.met ++ m ∷ [] in
    if goes_on s m.offer then
    record s { waits = s.waits - 1; met = met; after = length met; kept = s.kept && m.is_begun }
    else if begins s m.offer then
    record s { ahead = drop 1 s.ahead; waits = turns_of (slice_get s.ahead 0) - 1; met = met; after = length met }
    else record s { met = met }

-- ---- a run

-- Where a run is.
pub record Passage : Type 0 where
  pub kernel : BootAndHistory
  pub world : World
  -- the outside events to come
  pub coming : List OutsideLine
  pub standing : Standing
  -- whether the history was too full for an event
  pub full : Bool

-- What may be open in a turn.
pub data Place : Type 0 where
  TakeBy : ℕ → Place
  BackBy : ℕ → Place
  FromOutside : Place
  NewIn : ℕ → Place

-- THE PLACES OF A TURN, in their order
abbrev pub places : ℕ → ℕ → List Place
places cpus slots =
    map TakeBy (range_with_len 0 cpus) ++ map BackBy (range_with_len 0 cpus)
    ++ FromOutside ∷ map NewIn (range_with_len 0 slots)

-- where a turn begins. Whom its outside event kills is known then, since no slot gets a new process before it
abbrev pub turn_start : Passage → TurnStart
turn_start p = record {
  other = length p.world.cpus;
  records = p.world.records;
  event = next_now p.world.table (slice_get p.coming 0);
}

-- what is open there, in a turn that began so: once the history was too full for an event, returns alone
abbrev pub open_at : TurnStart → Passage → Place → Option Offer
open_at start p (TakeBy c) = if p.full then None else open_take p.world c
open_at start p (BackBy c) = open_back p.world c
open_at start p FromOutside = if p.full then None else open_outside start.event
open_at start p (NewIn s) = if p.full then None else open_respawn p.world s

-- THE EVENTS OF AN OFFER, in which `other` makes what no processor does
abbrev pub events_of : ℕ → Offer → List (ℕ × Event)
events_of other (Take c s) = (c, events.Take) ∷ []
events_of other (Back c s) = run_of c
events_of other (Outside e) = (other, e) ∷ []
events_of other (Respawn s) = (other, events.Respawn s) ∷ []

-- an offer is made
abbrev pub made : ℕ → Passage → Offer → Passage
made other p x =
    let o = offered p.world (events_of other x) in
    record p {
      kernel = kept_of p.kernel p.world o.made;
      world = world_after p.world o;
      coming = if is_outside x then drop 1 p.coming else p.coming;
      full = p.full || o.full;
    }

-- what is noted of an open offer, in a turn before which there were so many records
abbrev pub met_in : World → ℕ → Offer → Met
met_in w begun x = record { offer = x; records = w.records; is_begun = nat_lt begun w.records }

-- AN OPEN OFFER IS MET: it is passed, or made
abbrev pub meets : TurnStart → Passage → Offer → Passage
meets start p x =
    let q = record p { standing = noted p.standing (met_in p.world start.records x) } in
    if passes p.standing x then q else made start.other q x

abbrev pub meets_if : TurnStart → Passage → Option Offer → Passage
meets_if start p None = p
meets_if start p (Some x) = meets start p x

abbrev pub at_place : TurnStart → Passage → Place → Passage
at_place start p place = meets_if start p (open_at start p place)

-- A TURN: what is open at each place, one after another
abbrev pub passed_turn : Passage → Passage
passed_turn p = fold (at_place (turn_start p)) p (places (length p.world.cpus) (length p.world.services))

-- AT MOST n TURNS: where the run is after them, and how they end
abbrev pub passed_turns : ℕ → Passage → Passage × Ending
passed_turns zero p = (p, if is_over p.world p.coming then Rest else Turns)
passed_turns (suc n) p =
    if is_over p.world p.coming then (p, Rest)
    else let q = passed_turn p in if q.full then (q, Full) else passed_turns n q

-- ---- schedules

-- What schedules are of: at most so many turns, of a machine that boots so, with these outside events to come.
pub record Setting : Type 0 where
  pub turns : ℕ
  pub boot : World
  pub coming : List OutsideLine

-- a run at its beginning
abbrev pub from_boot : Setting → List Departure → Passage
from_boot t ds = record {
  kernel = record { boot = t.boot; history = [] };
  world = t.boot;
  coming = t.coming;
  standing = standing_at_boot ds;
  full = false;
}

-- THE RUN OF A LIST OF DEPARTURES
unfoldable pub run_of_schedule : Setting → List Departure → Passage × Ending
run_of_schedule t ds = passed_turns t.turns (from_boot t ds)

-- where it is at its end
abbrev pub end_of : Setting → List Departure → Standing
end_of t ds = (run_of_schedule t ds).0.standing

-- A SCHEDULE: its run meets each of its departures, up to the last turn of each
pub record IsSchedule (t : Setting) (ds : List Departure) : Type 0 where
  pub begun : (end_of t ds).ahead ≡ []
  pub ended : (end_of t ds).waits ≡ 0
  pub kept : (end_of t ds).kept ≡ true
