use Rattle.std.proofs.Common.{◌+◌, ◌∙◌, ap}
use Rattle.std.specs.Prelude.{nat_le}
use Rattle.mx_word.specs.Word.{bytes_in}
use Rattle.mx_mem.proofs.Paged.{limit_is}
use Rattle.mx_mem.proofs.segment.Segment.holds.Goals as goal

pub returns : goal.returns
returns c = c.holds.ensures ∙ ap (nat_le (c.args.at + bytes_in c.args.size)) (limit_is c.self.inside.limit c.self.inside.pages.items c.args.self.now c.self.invariant c.self.view_is)
