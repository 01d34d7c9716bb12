use Rattle.std.proofs.Common.{◌≡◌}
use Rattle.mx_cpus.specs.Courses.{AreTried}
use Rattle.mx_cpus.proofs.loops.sweep.Given as goal

abbrev pub invariant-loop-slot : goal.invariant-loop-slot
invariant-loop-slot g l = AreTried g.M.Naming.boot l.initial.seat l.slot l.seat × (l.seat.table ≡ l.initial.seat.table)
