use Rattle.std.proofs.Common.{◌≡◌, map, take}
use Rattle.mx_walk.specs.declared.stopping.Leaving.{Leaving}
use Rattle.mx_app_look.specs.Marks.{code_place}
use Rattle.mx_app_look.proofs.marks.each_leaving.Given as goal

abbrev pub invariant-loop-point : goal.invariant-loop-point
invariant-loop-point l = map (λ (m : Leaving). m.place) l.marks.items ≡ map code_place (take l.point-index l.points)
