use Rattle.std.proofs.Common.{◌≡◌}
use Rattle.std.specs.Prelude.{slice_get}
use Rattle.mx_text.specs.Lines.{lines}
use Rattle.mx_app_explain.proofs.detail.line_below.Given as goal

-- as many lines are before it as are left
abbrev pub invariant-loop-left : goal.invariant-loop-left
invariant-loop-left l = slice_get (lines l.rest) l.left ≡ slice_get (lines l.text) l.above

abbrev pub decreases-loop-left : goal.decreases-loop-left
decreases-loop-left l = l.left
