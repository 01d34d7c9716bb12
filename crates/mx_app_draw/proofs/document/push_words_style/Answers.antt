use Rattle.mx_app_draw.specs.Document.{words_style}
use Rattle.mx_app_draw.proofs.Joins.{last}
use Rattle.mx_app_draw.proofs.document.push_words_style.Goals as goal

pub returns : goal.returns
unfolding words_style
returns c =
    last c.extend_from_slice-2.result c.args.out.now.items c.extend_from_slice.new.self.items c.extend_from_slice-2.new.self.items _ _ _
    c.in_ok-extend_from_slice.ensures.items c.extend_from_slice-2.ensures.items
