use Rattle.std.proofs.Common.{◌∙◌, ap}
use Rattle.std.specs.Prelude.{unwrap_or}
use Rattle.mx_app_look.proofs.Ranges.{got_or_zero}
use Rattle.mx_app_look.proofs.range_change.byte_or_zero.Goals as goal

pub returns : goal.returns
returns c = c.unwrap_or.ensures ∙ ap (λ o. unwrap_or o 0) c.get.ensures ∙ got_or_zero c.args.memory.now c.args.at
