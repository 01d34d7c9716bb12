use Rattle.std.proofs.Common.{◌↔◌, IsTrue}
use Rattle.mx_vectors_compare.proofs.EndComparing.{SameFirst}
use Rattle.mx_vectors_compare.proofs.ends.is_memory_same.Given as goal

abbrev pub invariant-loop-at : goal.invariant-loop-at
invariant-loop-at l = IsTrue l.same ↔ SameFirst l.at l.memory l.wanted
