use Rattle.std.proofs.Common.{◌≡◌, ◌∙◌, sym, ap, Some}
use Rattle.mx_insn.specs.Spelling.{spelling}
use Rattle.mx_encode.specs.Choice.{Choice}
use Rattle.mx_encode.specs.Chosen.{fields_of}
use Rattle.mx_encode.proofs.spelling_laws.one_chosen.Goals as goal

some_is : (x y : Choice) → Some x ≡ Some y → x ≡ y
some_is x y e = cc

pub returns : goal.returns
returns c i wide a b x y =
    let same = some_is x.chosen y.chosen (sym x.is_chosen ∙ y.is_chosen) in
    x.spells.bytes_are ∙ (ap (λ (z : Choice). spelling z.row (fields_of z wide.displacement)) same ∙ sym y.spells.bytes_are)
