use Rattle.mx_app_draw.specs.Document.{figures_style}
use Rattle.mx_app_draw.proofs.Joins.{last}
use Rattle.mx_app_draw.proofs.document.push_figures_style.Goals as goal

pub returns : goal.returns
unfolding figures_style
returns c =
    last c.extend_from_slice-2.result c.args.out.now.items c.extend_from_slice.new.self.items c.extend_from_slice-2.new.self.items _ _ _
    c.in_ok-extend_from_slice.ensures.items c.extend_from_slice-2.ensures.items
