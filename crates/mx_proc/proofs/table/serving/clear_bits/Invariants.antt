use Rattle.std.proofs.Common.{◌≡◌, ◌++◌, map, take, drop}
use Rattle.mx_proc.specs.Serving.{without_bit_of}
use Rattle.mx_proc.proofs.table.serving.clear_bits.Given as goal

-- so far without the bit
abbrev pub invariant-loop-i : goal.invariant-loop-i
invariant-loop-i l = l.processes ≡ map (without_bit_of l.slot) (take l.i l.initial.processes) ++ drop l.i l.initial.processes
