-- Machines that are swept.
use Rattle.std.specs.Prelude.{◌≡◌, ◌<◌, ◌≤◌, ℕ, List, [], All, drop, length, take}
use Rattle.mx_app_step.specs.Kept.{kept_of}
use Rattle.mx_app_step.specs.Machine.{MachineState, world_of}
use Rattle.mx_machine.specs.Boot.{world_at_boot}
use Rattle.mx_machine.specs.declared.history.Record.{Record}
use Rattle.mx_machine.specs.History.{AreAccepted, BootAndHistory, events_of_history, world_after_events}
use Rattle.mx_machine.specs.World.{World, actors}
use Rattle.mx_turns.specs.declared.coming.Coming.{Coming}
use Rattle.mx_turns.specs.declared.pairs.Pair.{Pair}
use Rattle.mx_turns.specs.declared.faulted_run.Course.{Course}
use Rattle.mx_turns.specs.declared.faulted_run.Parts.{Parts}
use Rattle.mx_turns.specs.declared.faulted_run.Place.{Place}
use Rattle.mx_turns.specs.declared.faulted_run.Sweep.{Sweep}
use Rattle.mx_turns.specs.declared.faults.FaultLine.{FaultLine}
use Rattle.mx_turns.specs.declared.trials.Trial.{Trial}
use Rattle.mx_turns.specs.Findings.{findings_of}
use Rattle.mx_turns.specs.Sweep.{Run, coming, run_of, trial_text}

-- A sweep is of a machine that boots as this world: each record of the history is by an actor of the machine, and is
-- accepted; and the machine has an actor that is no processor.
pub record IsSwept (s : Sweep) (boot : World) : Type 0 where
  pub booted : boot ≡ world_at_boot s.config.now boot.services
  pub some : 0 < length boot.services
  pub few : length boot.services ≤ 32
  pub by_actors : All (λ (x : Record). x.actor < actors boot) s.records.now
  pub accepted : AreAccepted boot (events_of_history s.records.now)
  pub other : s.other < actors boot
  pub alone : length boot.cpus < actors boot

-- a machine is after a run, and this is said of its fault, and how its turns ended
pub record HasRun (r : Run) (m : MachineState) (c : Course) : Type 0 where
  pub said : c.said.items ≡ r.said
  pub ending : c.ending ≡ r.ending
  pub world : world_of m ≡ r.world
  pub kernel : m.kernel ≡ r.kernel

-- what a kernel keeps of records from its boot on
abbrev pub kept_from : World → List Record → BootAndHistory
kept_from boot records = kept_of (record { boot = boot; history = [] }) boot (events_of_history records)

-- A MACHINE HAS GONE ALONG a history, from its boot to position k: it has made the records before it, and nothing else.
pub record IsAlong (records : List Record) (k : ℕ) (m : MachineState) : Type 0 where
  pub world : world_of m ≡ world_after_events m.kernel.boot (events_of_history (take k records))
  pub kernel : m.kernel ≡ kept_from m.kernel.boot (take k records)

-- WHAT COMES FROM OUTSIDE in a history is listed, and those of the records before position k are past.
pub record IsComing (records : List Record) (k : ℕ) (c : Coming) : Type 0 where
  pub all : c.all.items ≡ coming records
  pub past : c.past ≡ length (coming (take k records))

-- one machine of a pair has gone along a history up to its position, what comes from outside after it is known, and the
-- other machine is of the same boot, with a history that begins as that of the first
pub record IsPair (records : List Record) (p : Pair) : Type 0 where
  pub along : IsAlong records p.position p.along
  pub coming : IsComing records p.position p.coming
  pub within : p.position ≤ length records
  pub boot : p.copy.kernel.boot ≡ p.along.kernel.boot
  pub begins : take (length p.along.kernel.history) p.copy.kernel.history ≡ p.along.kernel.history

-- parts are of a machine: its services, and the first records of its history
pub record ArePartsOf (m : MachineState) (p : Parts) : Type 0 where
  pub services : p.services.items ≡ m.kernel.boot.services
  pub records : take (length p.records.items) m.kernel.history ≡ p.records.items

-- a machine has gone along a history to a place's position, the checkpoint is of it, and the events are those that come
-- from outside after it
pub record IsPlace (records : List Record) (p : Place) : Type 0 where
  pub along : IsAlong records p.position p.along.now
  pub same : p.checkpoint.now ≡ p.along.now
  pub events : p.events.now ≡ coming (drop p.position records)
  pub within : p.position ≤ length records

-- the run with this fault at position k of a sweep of a machine that boots as this world
abbrev pub run_in : Sweep → World → List FaultLine → ℕ → Run
run_in s w fault k = run_of w s.other s.records.now s.bound fault k

-- THE TRIAL of position k in a sweep of a machine that boots as this world: the pair is there, and its copy is after the
-- run with the fault; the text is the run's, and the findings are those of the runs with the fault and without it.
pub record IsTrial (s : Sweep) (w : World) (k : ℕ) (t : Trial) : Type 0 where
  pub pair : IsPair s.records.now t.pair
  pub there : t.pair.position ≡ k
  pub boot : t.pair.along.kernel.boot ≡ w
  pub kernel : t.pair.copy.kernel ≡ (run_in s w s.fault.now k).kernel
  pub world : world_of t.pair.copy ≡ (run_in s w s.fault.now k).world
  pub text : t.text.items ≡ trial_text (run_in s w s.fault.now k)
  pub findings : t.findings ≡ findings_of (run_in s w s.fault.now k) (run_in s w [] k)
