use Rattle.std.proofs.Common.{◌≡◌, length}
use Rattle.mx_vectors_compare.proofs.case_reading.change_bytes.Given as goal

abbrev pub invariant-loop-change : goal.invariant-loop-change
invariant-loop-change l = length l.bytes ≡ length l.fn.bytes
