use Rattle.std.proofs.Common.{ap, ◌∙◌, not, rules}
use Rattle.arrayvec.proofs.ArrayVecLemmas.{filter-from_retain}
use Rattle.mx_debug.specs.declared.points.Breakpoint.{Breakpoint}
use Rattle.mx_debug.specs.Points.{is_at, without_point}
use Rattle.mx_debug.proofs.points.Debugger.remove.Goals as goal

pub returns : goal.returns
returns c = filter-from_retain _ (λ (p : Breakpoint). not (is_at c.args.slot c.args.address p)) _ (λ x b f y called. search rules) _ _ c.retain.ensures.filtered ∙ ap (λ x. without_point x c.args.slot c.args.address) c.self.view_is
