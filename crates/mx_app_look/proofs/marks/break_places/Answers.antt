use Rattle.std.proofs.Common.{◌∙◌, ◌≤◌, List, ap, length, map, subst}
use Rattle.std.proofs.lemmas.List.{take_all}
use Rattle.mx_debug.specs.declared.points.Breakpoint.{Breakpoint}
use Rattle.mx_app_look.specs.Marks.{code_place}
use Rattle.mx_app_look.proofs.marks.break_places.Goals as goal

pub returns : goal.returns
returns c =
    let i = c.loop-point.point-index in
    let points = c.args.points.now.breakpoints in
    let all : length points ≤ i = subst (λ (ps : List Breakpoint). length ps ≤ i) c.as_slice-point-items.ensures c.loop-point-test.false in
    c.loop-point.invariant ∙ ap (map code_place) (take_all i points all)
