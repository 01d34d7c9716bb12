-- Machines that run schedules (our own).
use Rattle.std.specs.Prelude.{◌≡◌, ◌<◌, ℕ, not, Bool, false, List, length, Option, Some, None}
use Rattle.mx_turns.specs.declared.outside.OutsideLine.{OutsideLine}
use Rattle.mx_machine.specs.Machine.{MachineState, world_of}
use Rattle.mx_machine.specs.World.{World, actors}
use Rattle.mx_explore.specs.declared.offers.Offer.{Offer}
use Rattle.mx_explore.specs.declared.passing.Departure.{Departure}
use Rattle.mx_explore.specs.declared.passing.Ran.{Ran}
use Rattle.mx_explore.specs.declared.passing.Schedule.{Schedule}
use Rattle.mx_explore.specs.Passing.{Passage, Setting, Standing, met_in, noted, passes, run_of_schedule}

abbrev pub standing : Schedule → Standing
standing s = record { ahead = s.ahead.now; waits = s.waits; met = s.met.items; after = s.after; kept = s.is_kept }

abbrev pub passage : MachineState → List OutsideLine → Standing → Bool → Passage
passage m coming s full =
    record { kernel = m.kernel; world = world_of m; coming = coming; standing = s; full = full }

-- a machine has an actor that is no processor
abbrev pub HasRoom : MachineState → Type 0
HasRoom m = length (world_of m).cpus < actors (world_of m)

-- what may be open was met, and it is to be made if it is open and isn't passed
abbrev pub IsMet : World → ℕ → Option Offer → Standing → Standing → Bool → Type 0
IsMet w begun None s t is_made = (is_made ≡ false) × (t ≡ s)
IsMet w begun (Some x) s t is_made = (is_made ≡ not (passes s x)) × (t ≡ noted s (met_in w begun x))

-- A MACHINE THAT RAN, by a list of departures
pub record IsRun (t : Setting) (ds : List Departure) (r : Ran) : Type 0 where
  pub kernel : r.machine.kernel ≡ (run_of_schedule t ds).0.kernel
  pub world : world_of r.machine ≡ (run_of_schedule t ds).0.world
  pub ending : r.ending ≡ (run_of_schedule t ds).1
  pub met : r.met.items ≡ (run_of_schedule t ds).0.standing.met
  pub after : r.after ≡ (run_of_schedule t ds).0.standing.after
