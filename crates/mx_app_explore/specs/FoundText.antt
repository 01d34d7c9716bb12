-- How the outcomes of schedules are printed (our own).
use Rattle.std.specs.Prelude.{ℕ, ◌+◌, nat_lt, if◌then◌else◌, List, [], ◌∷◌, ◌++◌, codes, length, Option, Some, None, slice_get}
use Rattle.std.specs.Fmt.{decimal}
use Rattle.std.specs.List.{flat_map}
use Rattle.mx_look.specs.Trace.{event_text}
use Rattle.mx_machine.specs.KernelState.{recorded_as}
use Rattle.mx_machine.specs.Service.{Service}
use Rattle.mx_print_report.specs.Words.{name_bytes}
use Rattle.mx_explore.specs.Passing.{Setting, end_of, run_of_schedule}
use Rattle.mx_explore.specs.declared.offers.Offer.{Offer}
use Rattle.mx_explore.specs.declared.offers.Offer.TheVariants.{Take, Back, Outside, Respawn}
use Rattle.mx_explore.specs.declared.outcomes.Outcome.{Outcome}
use Rattle.mx_explore.specs.declared.outcomes.Tally.{Tally}
use Rattle.mx_explore.specs.declared.passing.Departure.{Departure}
use Rattle.mx_explore.specs.declared.passing.Met.{Met}

-- how many schedules lead to an outcome, and what the first of them is like
abbrev pub head_text : ℕ → Outcome → List ℕ
head_text number o =
    codes "outcome " ++ decimal number ++ codes ": " ++ decimal o.count ++ codes " schedules, the first with "
    ++ decimal (length o.departures.items) ++ codes " departures and " ++ decimal o.records ++ codes " records\n"

-- ---- where a schedule departs

abbrev pub name_told : Option Service → List ℕ
name_told None = []
name_told (Some v) = name_bytes v.name.bytes

-- who waits, and with what
abbrev pub offer_text : List Service → Offer → List ℕ
offer_text vs (Take c s) =
    codes "processor " ++ decimal c ++ codes " waits with take " ++ name_told (slice_get vs s)
offer_text vs (Back c s) =
    codes "processor " ++ decimal c ++ codes " waits with back " ++ name_told (slice_get vs s)
offer_text vs (Outside e) = codes "outside waits with " ++ event_text (recorded_as e)
offer_text vs (Respawn s) = codes "respawner waits with respawn " ++ name_told (slice_get vs s)

-- for how many turns, if for several
abbrev pub turns_text : ℕ → List ℕ
turns_text n = if nat_lt 1 n then codes ", " ++ decimal n ++ codes " turns" else []

-- a line for a departure, by the offer with its number
abbrev pub departure_line : List Service → Departure → Option Met → List ℕ
departure_line vs d None = []
departure_line vs d (Some m) =
    codes "  after " ++ decimal m.records ++ codes ": " ++ offer_text vs m.offer ++ turns_text d.turns ++ codes "\n"

abbrev pub departure_lines : List Service → List Met → List Departure → List ℕ
departure_lines vs met ds = flat_map (λ (d : Departure). departure_line vs d (slice_get met d.at)) ds

-- ---- what is printed

abbrev pub outcome_lines : Setting → ℕ → Outcome → List ℕ
outcome_lines t number o =
    head_text number o
    ++ departure_lines (run_of_schedule t o.departures.items).0.world.services (end_of t o.departures.items).met
    o.departures.items
    ++ o.text.items

-- what f gives of outcomes in a row, the first of which has this number
abbrev pub numbered : {X : Type 0} → (ℕ → Outcome → List X) → ℕ → List Outcome → List X
numbered f number [] = []
numbered f number (o ∷ os) = f number o ++ numbered f (number + 1) os

abbrev pub total_text : ℕ → Tally → List ℕ
total_text k found =
    decimal found.schedules ++ codes " schedules with at most " ++ decimal k ++ codes " departures, "
    ++ decimal (length found.outcomes.items) ++ codes " outcomes\n"

-- WHAT IS PRINTED of all schedules with at most k departures
abbrev pub found_text : Setting → ℕ → Tally → List ℕ
found_text t k found = numbered (outcome_lines t) 1 found.outcomes.items ++ total_text k found
