use Rattle.std.proofs.Common.{◌≡◌, ◌++◌, drop}
use Rattle.mx_print_report.specs.Report.{slot_lines}
use Rattle.mx_print_report.proofs.reporting.push_slots.Given as goal

abbrev pub invariant-loop-slot : goal.invariant-loop-slot
invariant-loop-slot l = l.out.items ++ slot_lines l.table l.slot (drop l.slot l.services) ≡ l.fn.out.items ++ slot_lines l.table 0 l.services
