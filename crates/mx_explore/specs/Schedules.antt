-- EVERY SCHEDULE that departs in few places (our own).
use Rattle.std.specs.Prelude.{ℕ, ◌+◌, ◌-◌, ◌==◌, ◌≡◌, ◌≤◌, ◌%◌, ◌&&◌, Bool, true, false, List, [], ◌∷◌, All, Contains, length, map}
use Rattle.std.specs.List.{IsDistinct}
use Rattle.mx_explore.specs.declared.outcomes.Tally.{Tally}
use Rattle.mx_explore.specs.declared.passing.Departure.{Departure}
use Rattle.mx_explore.specs.Outcomes.{IsTally, found_by}
use Rattle.mx_explore.specs.Passing.{IsSchedule, Setting}

-- two lists of departures are the same
abbrev pub is_same : List Departure → List Departure → Bool
is_same [] [] = true
is_same (d ∷ ds) (e ∷ es) = (d.at == e.at) && (d.turns == e.turns) && is_same ds es
is_same ds es = false

-- A part of the schedules: how many parts come before it, and how many after it.
pub record Part : Type 0 where
  pub before : ℕ
  pub after : ℕ

-- a schedule is in a part by its first departure; the one without a departure is in part 0
abbrev pub is_in_part : Part → List Departure → Bool
is_in_part p [] = p.before == 0
is_in_part p (d ∷ ds) = (d.at % (p.before + 1 + p.after)) == p.before

-- THESE ARE ALL SCHEDULES of a part with at most k departures, each once
pub record AreAll (t : Setting) (k : ℕ) (p : Part) (dss : List (List Departure)) : Type 0 where
  pub met : All (IsSchedule t) dss
  pub few : All (λ ds. length ds ≤ k) dss
  pub part : All (λ ds. is_in_part p ds ≡ true) dss
  pub every : (ds : List Departure) → IsSchedule t ds → length ds ≤ k → is_in_part p ds ≡ true → Contains dss ds
  pub once : IsDistinct is_same dss

-- the part with this number of so many, from 0 on; and all of them as one
abbrev pub part_at : ℕ → ℕ → Part
part_at parts i = record { before = i; after = parts - (i + 1) }

abbrev pub whole : Part
whole = record { before = 0; after = 0 }

-- WHAT IS FOUND: the tally of all of them
abbrev pub IsExplored : Setting → ℕ → Part → Tally → Type 0
IsExplored t k p found =
    (dss : List (List Departure)) × AreAll t k p dss × IsTally (map (found_by t) dss) found
