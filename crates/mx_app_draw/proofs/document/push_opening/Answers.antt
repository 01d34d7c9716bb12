use Rattle.std.proofs.Common.{◌∙◌, ◌++◌, ℕ, ap, ap₂}
use Rattle.mx_app_draw.specs.Document.{opening_text}
use Rattle.mx_app_draw.specs.Shown.{pair}
use Rattle.mx_app_draw.proofs.Joins.{last, next}
use Rattle.mx_app_draw.proofs.document.push_opening.Goals as goal

pub returns : goal.returns
unfolding opening_text
returns c =
    let before = c.args.out.now.items in
    let head = c.in_ok-extend_from_slice.ensures.items ∙ ap (λ l. before ++ l) c.document_head.ensures in
    let size = next before c.extend_from_slice.new.self.items c.push_size.new.out.items _ _ head c.in_ok-push_size.ensures in
    let view = next before c.push_size.new.out.items c.extend_from_slice-2.new.self.items _ _ size c.in_ok-extend_from_slice-2.ensures.items in
    let pair = next before c.extend_from_slice-2.new.self.items c.push_pair.new.out.items _ _ view (c.in_ok-push_pair.ensures ∙ ap₂ (λ (x y : ℕ). c.extend_from_slice-2.new.self.items ++ pair x y) c.from.ensures c.from-2.ensures) in
    last c.extend_from_slice-3.result before c.push_pair.new.out.items c.extend_from_slice-3.new.self.items _ _ _ pair c.extend_from_slice-3.ensures.items
