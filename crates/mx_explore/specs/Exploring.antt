-- Schedules that are explored one after another (our own).
use Rattle.std.specs.Prelude.{ℕ, ◌≡◌, ◌≤◌, ◌+◌, ◌-◌, ◌^◌, ◌++◌, min, map, List, [], ◌∷◌}
use Rattle.mx_machine.specs.Machine.{MachineState, world_of}
use Rattle.mx_machine.specs.Service.{Service}
use Rattle.mx_turns.specs.Made.{outside_events}
use Rattle.mx_walk.specs.declared.progress.Part.{Part as Parts}
use Rattle.mx_explore.specs.declared.exploring.Explored.{Explored}
use Rattle.mx_explore.specs.declared.exploring.Explorer.{Explorer}
use Rattle.mx_explore.specs.declared.exploring.Terms.{Terms}
use Rattle.mx_explore.specs.declared.passing.Departure.{Departure}
use Rattle.mx_explore.specs.Outcomes.{Found, IsCounted, found_by}
use Rattle.mx_explore.specs.Passages.{HasRoom}
use Rattle.mx_explore.specs.Passing.{Setting, Standing, end_of}
use Rattle.mx_explore.specs.Schedules.{IsExplored, Part}

-- the schedules of a machine that boots so
abbrev pub setting : Terms → MachineState → Setting
setting t m = record { turns = t.bound; boot = world_of m; coming = outside_events t.outside }

abbrev pub part_of : Terms → Part
part_of t = record { before = t.before; after = t.after }

-- A machine at its boot, with these services: schedules are run from it.
pub record IsAtBoot (m : MachineState) (given : List Service) : Type 0 where
  pub kernel : m.kernel ≡ record { boot = world_of m; history = [] }
  pub services : given ≡ m.kernel.boot.services
  pub room : HasRoom m

-- after each schedule it is shown how many are done, as far as 64 bits count, of no fewer: k were before, n are then
abbrev pub ShowsCounts : ℕ → List Parts → ℕ → Type 0
ShowsCounts k [] n = n ≡ k
ShowsCounts k (p ∷ ps) n =
    (p.done ≡ min (k + 1) (2 ^ 64 - 1)) × (p.done ≤ p.all) × ShowsCounts p.done ps n

-- but for what is counted and known, two explorers are the same
pub record IsSame (a b : Explorer) : Type 0 where
  pub terms : b.terms ≡ a.terms
  pub boot : b.boot ≡ a.boot
  pub departures : b.departures.items ≡ a.departures.items

-- an explorer has counted these schedules too
abbrev pub HasCounted : Explorer → List (List Departure) → Explorer → Type 0
HasCounted a dss b =
    (fs : List Found) → IsCounted fs a.tally → IsCounted (fs ++ map (found_by (setting a.terms a.boot)) dss) b.tally

-- what the schedule of an explorer comes to
abbrev pub end_now : Explorer → Standing
end_now a = end_of (setting a.terms a.boot) a.departures.items

-- ALL SCHEDULES WERE RUN, and each outcome's first can be run again
pub record IsDone (t : Terms) (m : MachineState) (e : Explored) : Type 0 where
  pub found : IsExplored (setting t m) t.departures (part_of t) e.tally
  pub boot : e.boot ≡ m
  pub ready : IsAtBoot m e.services.items
