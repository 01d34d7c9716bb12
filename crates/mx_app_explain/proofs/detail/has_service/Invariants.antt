use Rattle.std.proofs.Common.{◌≡◌, length}
use Rattle.mx_text.specs.Lines.{lines}
use Rattle.mx_app_explain.specs.Details.{has_service}
use Rattle.mx_app_explain.proofs.detail.has_service.Given as goal

abbrev pub invariant-loop-line : goal.invariant-loop-line
invariant-loop-line l = has_service (lines l.rest) ≡ has_service (lines l.text)

abbrev pub decreases-loop-line : goal.decreases-loop-line
decreases-loop-line l = length l.rest
