use Rattle.std.proofs.Common.{◌∙◌, ◌++◌, ℕ, ap₂}
use Rattle.mx_app_draw.specs.Figures.{moved}
use Rattle.mx_app_draw.specs.Shown.{pair}
use Rattle.mx_app_draw.proofs.Joins.{last, next}
use Rattle.mx_app_draw.proofs.figures.push_moved.Goals as goal

pub returns : goal.returns
unfolding moved
returns c =
    last c.extend_from_slice-2.result c.args.out.now.items c.push_pair.new.out.items c.extend_from_slice-2.new.self.items _ _ _
    (next c.args.out.now.items c.extend_from_slice.new.self.items c.push_pair.new.out.items _ _ c.in_ok-extend_from_slice.ensures.items (c.in_ok-push_pair.ensures ∙ ap₂ (λ (x y : ℕ). c.extend_from_slice.new.self.items ++ pair x y) c.from.ensures c.from-2.ensures))
    c.extend_from_slice-2.ensures.items
