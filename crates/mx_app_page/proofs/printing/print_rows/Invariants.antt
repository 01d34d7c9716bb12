use Rattle.std.proofs.Common.{◌≡◌, ◌+◌, take}
use Rattle.std.specs.Io.KnownBytes.{Appends}
use Rattle.mx_app_step.specs.Machine.{world_of}
use Rattle.mx_machine.specs.History.{AreAccepted, world_after_events, events_of_history}
use Rattle.mx_app_page.specs.Pages.{shown_in, rows_text}
use Rattle.mx_app_page.proofs.printing.print_rows.Given as goal

-- the records so far were accepted, and their rows are printed; the machine is shown as it is
abbrev pub invariant-loop-index : goal.invariant-loop-index
invariant-loop-index g l = record {
  accepted : AreAccepted (world_of l.initial.machine) (events_of_history (take l.index l.records));
  world : world_of l.machine ≡ world_after_events (world_of l.initial.machine) (events_of_history (take l.index l.records));
  shown : l.before ≡ shown_in (world_of l.machine);
  printed : Appends (g.W.Write.contents l.initial.out) (g.W.Write.contents l.out) (rows_text (world_of l.initial.machine) (l.above + 1) (take l.index l.records));
}
