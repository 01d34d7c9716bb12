use Rattle.std.proofs.Common.{◌≡◌, ◌++◌, take}
use Rattle.mx_app_draw.specs.Document.{values_text}
use Rattle.mx_app_draw.proofs.document.push_values.Given as goal

-- the values so far
abbrev pub invariant-loop-value : goal.invariant-loop-value
invariant-loop-value l = l.out.items ≡ l.initial.out.items ++ values_text l.scene (take l.value-index l.values)
