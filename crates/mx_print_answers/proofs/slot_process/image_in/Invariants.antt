use Rattle.std.proofs.Common.{◌≡◌, None}
use Rattle.std.specs.List.{range_with_len}
use Rattle.mx_machine.specs.Machine.{world_of}
use Rattle.mx_print_answers.specs.Slots.{image_on}
use Rattle.mx_print_answers.proofs.slot_process.image_in.Given as goal

-- none of the processors so far has it
abbrev pub invariant-loop-cpu : goal.invariant-loop-cpu
invariant-loop-cpu l = image_on (world_of l.machine) l.slot (range_with_len 0 l.cpu) ≡ None
