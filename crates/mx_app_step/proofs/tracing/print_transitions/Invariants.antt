use Rattle.std.proofs.Common.{◌≡◌, take}
use Rattle.std.specs.Io.KnownBytes.{Appends}
use Rattle.mx_app_start.specs.Machine.{world_of}
use Rattle.mx_machine.specs.History.{AreAccepted, world_after_events, events_of_history}
use Rattle.mx_app_step.specs.Traces.{trace_text}
use Rattle.mx_app_step.proofs.tracing.print_transitions.Given as goal

-- the records so far were accepted, and are printed
abbrev pub invariant-loop-index : goal.invariant-loop-index
invariant-loop-index g l = record {
  accepted : AreAccepted (world_of l.initial.machine) (events_of_history (take l.index l.records));
  world : world_of l.machine ≡ world_after_events (world_of l.initial.machine) (events_of_history (take l.index l.records));
  printed : Appends (g.W.Write.contents l.initial.out) (g.W.Write.contents l.out) (trace_text l.from (world_of l.initial.machine) 1 (take l.index l.records));
}
