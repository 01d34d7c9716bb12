use Rattle.mx_app_draw.specs.Hints.{standing_hint}
use Rattle.mx_app_draw.proofs.Joins.{last_by, next}
use Rattle.mx_app_draw.proofs.hints.push_standing_hint.Goals as goal

pub returns : goal.returns
unfolding standing_hint
returns c =
    let before = c.args.out.now.items in
    let cpu = next before c.push_standing.new.out.items c.push_on_processor.new.out.items _ _ c.in_ok-push_standing.ensures c.in_ok-push_on_processor.ensures in
    let word = next before c.push_on_processor.new.out.items c.extend_from_slice.new.self.items _ _ cpu c.in_ok-extend_from_slice.ensures.items in
    last_by c.push_decimal.result before c.extend_from_slice.new.self.items c.push_decimal.new.out.items _ _ word c.push_decimal.ensures
