use Rattle.std.proofs.Common.{◌≡◌, length, take}
use Rattle.mx_debug.proofs.Marking.{AreMarked}
use Rattle.mx_debug.proofs.points.Debugger.marks.Given as goal

abbrev pub invariant-loop-point : goal.invariant-loop-point
invariant-loop-point l = record { inside : length l.marks ≡ 1024; marked : AreMarked (take l.point-index l.point-items) l.slot l.marks }
