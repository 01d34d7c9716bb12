use Rattle.std.proofs.Common.{◌∙◌, ◌++◌, ap}
use Rattle.mx_app_draw.specs.Figures.{anchored}
use Rattle.mx_app_draw.proofs.Joins.{last, next}
use Rattle.mx_app_draw.proofs.figures.push_anchored.Goals as goal

pub returns : goal.returns
unfolding anchored
returns c =
    let before = c.args.out.now.items in
    let word = next before c.extend_from_slice.new.self.items c.extend_from_slice-2.new.self.items _ _ c.in_ok-extend_from_slice.ensures.items
    (c.in_ok-extend_from_slice-2.ensures.items ∙ ap (λ l. c.extend_from_slice.new.self.items ++ l) c.anchor_word.ensures) in
    last c.extend_from_slice-3.result before c.extend_from_slice-2.new.self.items c.extend_from_slice-3.new.self.items _ _ _ word c.extend_from_slice-3.ensures.items
