-- Machines that are ready to be swept.
use Rattle.std.proofs.Common.{◌≡◌, ◌∙◌, ◌<◌, ◌≤◌, ℕ, List, [], All, None, ap, length, subst, sym}
use Rattle.std.proofs.lemmas.List.{length-replicate}
use Rattle.mx_app_start.proofs.BootLemmas.{other_booted}
use Rattle.mx_app_step.specs.Config.{Config}
use Rattle.mx_app_step.specs.Kept.{kept_of}
use Rattle.mx_app_step.specs.Machine.{MachineState, world_of}
use Rattle.mx_app_step.specs.Service.{Service}
use Rattle.mx_machine.specs.Boot.{world_at_boot}
use Rattle.mx_machine.specs.declared.events.Event.{Event}
use Rattle.mx_machine.specs.declared.history.Record.{Record}
use Rattle.mx_machine.specs.History.{AreAccepted, BootAndHistory, events_of_history}
use Rattle.mx_machine.specs.Move.{moves}
use Rattle.mx_machine.specs.World.{World, actors}
use Rattle.mx_turns.proofs.MadeLemmas.{kept_boot}
use Rattle.mx_turns.specs.declared.faults.FaultLine.{FaultLine}
use Rattle.mx_turns.specs.declared.faulted_run.Sweep.{Sweep}
use Rattle.mx_turns.specs.Swept.{IsSwept}
use Rattle.mx_app_turns.specs.Begun.{IsReady}
use Rattle.mx_app_turns.specs.Sweeping.{SweepOf}

-- a machine that is started is ready
pub ready : (m : MachineState) (config k : Config) (other : ℕ) (records : List Record) (vs : List Service) → m.kernel ≡ record { boot = world_of m; history = [] } → world_of m ≡ world_at_boot k vs → config ≡ k
    → 0 < length vs → length vs ≤ 32 → other ≡ k.cpus → All (λ (x : Record). x.actor < actors (world_of m)) records → IsReady m config other records
ready m config k other records vs kernel booted same some few first by =
    let own : (world_of m).services ≡ vs = ap (λ (w : World). w.services) booted in
    record {
      kernel = kernel;
      booted = booted ∙ ap (λ (c : Config). world_at_boot c vs) (sym same) ∙ ap (λ (xs : List Service). world_at_boot config xs) (sym own);
      some = subst (λ (xs : List Service). 0 < length xs) (sym own) some;
      few = subst (λ (xs : List Service). length xs ≤ 32) (sym own) few;
      first = first ∙ ap (λ (c : Config). c.cpus) (sym same);
      by_actors = by;
    }

module _ (m : MachineState) (config : Config) (other : ℕ) (records : List Record) (is : IsReady m config other records) where
  -- its boot is kept, whatever it makes
  pub boot_stays : (n : MachineState) (xs : List (ℕ × Event)) → n.kernel ≡ kept_of m.kernel (world_of m) xs → n.kernel.boot ≡ world_of m
  boot_stays n xs made =
      ap (λ (k : BootAndHistory). k.boot) made ∙ kept_boot m.kernel xs (moves (world_of m) xs).0 ∙ ap (λ (k : BootAndHistory). k.boot) is.kernel

  -- if its history is accepted, it is swept
  pub swept : (s : Sweep) (boot : World) → boot ≡ world_of m → s.config.now ≡ config → s.other ≡ other → s.records.now ≡ records → AreAccepted (world_of m) (events_of_history records) → IsSwept s boot
  swept s boot at by first same accepted =
      let below : config.cpus < actors (world_of m) = other_booted (world_of m) config (world_of m).services is.booted in
      let as_many : length (world_of m).cpus ≡ config.cpus = ap (λ (w : World). length w.cpus) is.booted ∙ length-replicate config.cpus None in
      subst (λ (w : World). IsSwept s w) (sym at) (record {
        booted = is.booted ∙ ap (λ (c : Config). world_at_boot c (world_of m).services) (sym by);
        some = is.some;
        few = is.few;
        by_actors = subst (λ (rs : List Record). All (λ (x : Record). x.actor < actors (world_of m)) rs) (sym same) is.by_actors;
        accepted = subst (λ (rs : List Record). AreAccepted (world_of m) (events_of_history rs)) (sym same) accepted;
        other = subst (λ n. n < actors (world_of m)) (sym (first ∙ is.first)) below;
        alone = subst (λ n. n < actors (world_of m)) (sym as_many) below;
      })

-- what it is a sweep of
pub same_sweep : (boot w : World) (other : ℕ) (read records : List Record) (said fault : List FaultLine) (n : ℕ) → boot ≡ w → read ≡ records → said ≡ fault
    → ◌≡◌ {A = SweepOf} (record { boot = boot; other = other; records = read; fault = said; bound = n }) (record { boot = w; other = other; records = records; fault = fault; bound = n })
same_sweep boot w other read records said fault n at same told =
    ap (λ (b : World). record { boot = b; other = other; records = read; fault = said; bound = n }) at
    ∙ ap (λ (rs : List Record). record { boot = w; other = other; records = rs; fault = said; bound = n }) same
    ∙ ap (λ (ls : List FaultLine). record { boot = w; other = other; records = records; fault = ls; bound = n }) told
