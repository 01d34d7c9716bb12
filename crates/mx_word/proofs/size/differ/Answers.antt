use Rattle.std.proofs.Common.{◌≡◌, Bool, true, false, refl}
use Rattle.mx_word.specs.Word.{differ}
use mathlib.Core.Bool.{not, beq}
use Rattle.mx_word.proofs.size.differ.Goals as goal

unequal : (a b : Bool) → not (beq a b) ≡ differ a b
unequal true true = refl
unequal true false = refl
unequal false true = refl
unequal false false = refl

pub returns : goal.returns
returns c = unequal c.args.left c.args.right
