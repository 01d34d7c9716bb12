use Rattle.std.proofs.Common.{ap, ◌∙◌, not, rules}
use Rattle.arrayvec.proofs.ArrayVecLemmas.{filter-from_retain}
use Rattle.mx_app_look.specs.declared.watches.Watch.{Watch}
use Rattle.mx_app_look.specs.Watches.{is_watch, without_watch}
use Rattle.mx_app_look.proofs.watches.Watches.remove.Goals as goal

pub returns : goal.returns
returns c = filter-from_retain _ (λ (y : Watch). not (is_watch c.args.watch y)) _ (λ x b f y called. search rules) _ _ c.retain.ensures.filtered ∙ ap (λ x. without_watch x c.args.watch) c.self.view_is
