use Rattle.std.proofs.Common.{◌≡◌, drop}
use Rattle.std.specs.List.{list_any}
use Rattle.mx_asm.specs.Faults.{is_undefined}
use Rattle.mx_asm.specs.View.{above_of}
use Rattle.mx_asm.proofs.layout.Layout.any_undefined.Given as goal

abbrev pub invariant-loop-value : goal.invariant-loop-value
invariant-loop-value l = list_any (is_undefined (above_of l.self)) l.values ≡ list_any (is_undefined (above_of l.self)) (drop l.value-index l.values)
