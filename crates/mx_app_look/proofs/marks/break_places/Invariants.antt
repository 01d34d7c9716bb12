use Rattle.std.proofs.Common.{◌≡◌, map, take}
use Rattle.mx_app_look.specs.Marks.{code_place}
use Rattle.mx_app_look.proofs.marks.break_places.Given as goal

abbrev pub invariant-loop-point : goal.invariant-loop-point
invariant-loop-point l = l.places.items ≡ map code_place (take l.point-index l.points.breakpoints)
