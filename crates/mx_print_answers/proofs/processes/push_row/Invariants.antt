use Rattle.std.proofs.Common.{◌≡◌, ◌++◌, ◌-◌, take, drop}
use Rattle.std.specs.Prelude.{string_bytes}
use Rattle.std.specs.List.{flat_map}
use Rattle.mx_print_answers.specs.Processes.{byte_field}
use Rattle.mx_print_answers.proofs.processes.push_row.Given as goal

-- the bytes so far
abbrev pub invariant-loop-at : goal.invariant-loop-at
invariant-loop-at l = string_bytes l.out ≡ string_bytes l.initial.out ++ flat_map byte_field (take (l.at - l.from) (drop l.from l.memory))
