use Rattle.std.proofs.Common.{◌∙◌, ap, sym}
use Rattle.mx_app_look.specs.Ranges.{range_in}
use Rattle.mx_app_look.proofs.Ranges.{step_quiet}
use Rattle.mx_app_look.proofs.range_change.RangeChangeMark.is_of_memory.Goals as goal

pub returns : goal.returns
returns c = λ _ l o slot same. (step_quiet c.args.self.now.watch l o same, λ seen here. seen here ∙ ap (λ m. range_in m c.args.self.now.watch) (sym same))
