use Rattle.std.proofs.Common.{◌≡◌, map, take}
use Rattle.mx_app_look.specs.Ranges.{Kept}
use Rattle.mx_app_look.proofs.marks.each_change.Given as goal

abbrev pub invariant-loop-watch : goal.invariant-loop-watch
invariant-loop-watch l = map (λ (m : Kept). m.watch) l.marks.items ≡ take l.watch-index l.watches
