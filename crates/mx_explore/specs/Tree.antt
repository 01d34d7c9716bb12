-- THE TREE OF SCHEDULES: each one's longer ones, by the offers that its run meets after its last departure (our own).
use Rattle.std.specs.Prelude.{ℕ, zero, suc, ◌+◌, ◌-◌, ◌&&◌, if◌then◌else◌, Bool, false, List, [], ◌∷◌, ◌++◌, drop, filter, length, Option, Some, None, slice_get}
use Rattle.std.specs.List.{flat_map, range_with_len}
use Rattle.mx_explore.specs.Offers.{is_outside}
use Rattle.mx_explore.specs.declared.passing.Departure.{Departure}
use Rattle.mx_explore.specs.declared.passing.Met.{Met}
use Rattle.mx_explore.specs.Passing.{Setting, Standing, end_of}
use Rattle.mx_explore.specs.Schedules.{Part, is_in_part}

-- the first offer of the outside among these is in a turn that has a record already
abbrev pub waits_on : List Met → Bool
waits_on [] = false
waits_on (m ∷ ms) = if is_outside m.offer then m.is_begun else waits_on ms

-- a schedule's last departure, if it is of an outside event, can wait for a turn more
abbrev pub can_wait : Standing → Bool
can_wait s = waits_on (drop s.after s.met)

abbrev pub is_of_outside : Option Met → Bool
is_of_outside None = false
is_of_outside (Some m) = is_outside m.offer

-- with one departure more
abbrev pub departed : List Departure → ℕ → ℕ → List Departure
departed ds at turns = ds ++ record { at = at; turns = turns } ∷ []

-- what f gives of the schedules that depart once more than ds, at this offer: for so many turns, and for longer, as
-- long as can be, but not for more turns than these
abbrev pub departing : (List Departure → List (List Departure)) → Setting → List Departure → ℕ → ℕ → ℕ → List (List Departure)
departing f t ds at turns zero = []
departing f t ds at turns (suc more) =
    f (departed ds at turns)
    ++ (if can_wait (end_of t (departed ds at turns)) && is_of_outside (slice_get (end_of t ds).met at)
    then departing f t ds at (turns + 1) more else [])

-- the offers at which a schedule may depart once more
abbrev pub next_places : Standing → List ℕ
next_places s = range_with_len s.after (length s.met - s.after)

-- those of which the longer schedule is in a part
abbrev pub asked_places : Part → List Departure → Standing → List ℕ
asked_places p ds s = filter (λ at. is_in_part p (departed ds at 1)) (next_places s)

-- a schedule itself, if it is in the part
abbrev pub itself : Part → List Departure → List (List Departure)
itself p ds = if is_in_part p ds then ds ∷ [] else []

-- THE SCHEDULES of a part that begin as ds and depart at most k times more
abbrev pub below : Part → Setting → ℕ → List Departure → List (List Departure)
below p t zero ds = itself p ds
below p t (suc k) ds =
    itself p ds
    ++ flat_map (λ at. departing (below p t k) t ds at 1 t.turns) (asked_places p ds (end_of t ds))
