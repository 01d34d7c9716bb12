use Rattle.std.proofs.Common.{◌≡◌, ◌+◌, take}
use Rattle.mx_app_start.specs.Machine.{world_of}
use Rattle.mx_machine.specs.History.{AreAccepted, world_after_events, events_of_history}
use Rattle.mx_app_step.specs.Kept.{kept_of}
use Rattle.mx_app_step.proofs.records.perform_records.Given as goal

-- the records so far were accepted, and the next has this number
abbrev pub invariant-loop-entry : goal.invariant-loop-entry
invariant-loop-entry l = record {
  accepted : AreAccepted (world_of l.initial.machine) (events_of_history (take l.entry-index l.records));
  world : world_of l.machine ≡ world_after_events (world_of l.initial.machine) (events_of_history (take l.entry-index l.records));
  kept : l.machine.kernel ≡ kept_of l.initial.machine.kernel (world_of l.initial.machine) (events_of_history (take l.entry-index l.records));
  number : l.number ≡ l.entry-index + 1;
}
