use Rattle.std.proofs.Common.{◌≡◌, ◌++◌, take, drop}
use Rattle.std.specs.Prelude.{string_bytes}
use Rattle.std.specs.List.{flat_map, range_with_len}
use Rattle.mx_print_answers.specs.Processes.{numbered_row}
use Rattle.mx_print_answers.proofs.processes.push_rows.Given as goal

-- the rows so far
abbrev pub invariant-loop-row : goal.invariant-loop-row
invariant-loop-row l = string_bytes l.out ≡ string_bytes l.initial.out ++ flat_map (numbered_row l.from (take l.count (drop l.from l.memory))) (range_with_len 0 l.row)
