use Rattle.std.proofs.Common.{◌≡◌, ◌++◌, drop, length}
use Rattle.mx_app_step.specs.Machine.{world_of}
use Rattle.mx_machine.specs.World.{actors}
use Rattle.mx_turns.specs.Faults.{faults_kept, faults_made}
use Rattle.mx_turns.proofs.faulted_run.perform_fault.Given as goal

-- what is left of the lines goes on from here
abbrev pub invariant-loop-line : goal.invariant-loop-line
invariant-loop-line l = record {
  said : l.said.items ++ (faults_made (world_of l.machine) l.other (drop l.line-index l.fault)).0 ≡ (faults_made (world_of l.initial.machine) l.other l.fault).0;
  world : (faults_made (world_of l.machine) l.other (drop l.line-index l.fault)).1 ≡ (faults_made (world_of l.initial.machine) l.other l.fault).1;
  kept : faults_kept l.machine.kernel (world_of l.machine) l.other (drop l.line-index l.fault)
      ≡ faults_kept l.initial.machine.kernel (world_of l.initial.machine) l.other l.fault;
  actors : actors (world_of l.machine) ≡ actors (world_of l.initial.machine);
  cpus : length (world_of l.machine).cpus ≡ length (world_of l.initial.machine).cpus;
}
