use Rattle.std.proofs.Common.{◌≡◌, length}
use Rattle.mx_text.specs.Lines.{lines}
use Rattle.mx_app_explain.specs.MaskNames.{service_bit}
use Rattle.mx_app_explain.proofs.mask_names.service_bit.Given as goal

-- as many services are above as the slot says
abbrev pub invariant-loop-line : goal.invariant-loop-line
invariant-loop-line l = service_bit (lines l.rest) l.slot l.name ≡ service_bit (lines l.text) 0 l.name

abbrev pub decreases-loop-line : goal.decreases-loop-line
decreases-loop-line l = length l.rest
