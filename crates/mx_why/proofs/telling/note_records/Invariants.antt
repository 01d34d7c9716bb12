use Rattle.std.proofs.Common.{◌≡◌, take}
use Rattle.mx_app_start.specs.Machine.{world_of}
use Rattle.mx_machine.specs.History.{AreAccepted, world_after_events, events_of_history}
use Rattle.mx_why.specs.FailedCalls.{failed_calls}
use Rattle.mx_why.specs.Noting.{notes_of_records}
use Rattle.mx_why.proofs.telling.note_records.Given as goal

-- the records so far were accepted, and are noted
abbrev pub invariant-loop-index : goal.invariant-loop-index
invariant-loop-index l = record {
  accepted : AreAccepted (world_of l.initial.machine) (events_of_history (take l.index l.records));
  world : world_of l.machine ≡ world_after_events (world_of l.initial.machine) (events_of_history (take l.index l.records));
  noted : l.notes.items ≡ notes_of_records (world_of l.initial.machine) (take l.index l.records);
  failed : l.calls.items ≡ failed_calls (world_of l.initial.machine) (take l.index l.records);
}
