use Rattle.std.proofs.Common.{◌≡◌, take}
use Rattle.mx_app_step.specs.Machine.{world_of}
use Rattle.mx_machine.specs.History.{AreAccepted, world_after_events, events_of_history}
use Rattle.mx_app_step.specs.Glances.{glance_of}
use Rattle.mx_app_draw.specs.Scenes.{transitions_drawn}
use Rattle.mx_app_draw.proofs.seeing.see_records.Given as goal

-- the records so far were accepted, and are seen
abbrev pub invariant-loop-index : goal.invariant-loop-index
invariant-loop-index l = record {
  accepted : AreAccepted (world_of l.initial.machine) (events_of_history (take l.index l.records));
  reached : world_of l.machine ≡ world_after_events (world_of l.initial.machine) (events_of_history (take l.index l.records));
  glanced : l.world ≡ glance_of (world_after_events (world_of l.initial.machine) (events_of_history (take l.index l.records)));
  drawn : l.transitions.items ≡ transitions_drawn l.from (world_of l.initial.machine) 1 (take l.index l.records);
}
