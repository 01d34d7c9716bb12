use Rattle.std.proofs.Common.{◌≡◌, ◌++◌, ◌-◌, ◌≤◌, length, take}
use Rattle.std.specs.Prelude.{string_bytes}
use Rattle.mx_machine.specs.History.{replay}
use Rattle.mx_print_answers.specs.Messages.{delivery_lines}
use Rattle.mx_print_answers.proofs.messages.push_messages.Given as goal

-- the lines so far; each has a byte or more
abbrev pub invariant-loop-delivery : goal.invariant-loop-delivery
invariant-loop-delivery l = record {
  lines : string_bytes l.out ≡ string_bytes l.fn.out ++ delivery_lines (take l.index (replay l.kernel).table.deliveries);
  few : l.index ≤ length (string_bytes l.out);
}

abbrev pub decreases-loop-delivery : goal.decreases-loop-delivery
decreases-loop-delivery l = length (replay l.kernel).table.deliveries - l.index
