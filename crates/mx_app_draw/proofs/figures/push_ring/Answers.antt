use Rattle.mx_app_draw.specs.Figures.{ring_text}
use Rattle.mx_app_draw.proofs.Joins.{last, next}
use Rattle.mx_app_draw.proofs.figures.push_ring.Goals as goal

pub returns : goal.returns
unfolding ring_text
returns c =
    last c.extend_from_slice-2.result c.args.out.now.items c.push_circle.new.out.items c.extend_from_slice-2.new.self.items _ _ _
    (next c.args.out.now.items c.extend_from_slice.new.self.items c.push_circle.new.out.items _ _ c.in_ok-extend_from_slice.ensures.items c.in_ok-push_circle.ensures)
    c.extend_from_slice-2.ensures.items
