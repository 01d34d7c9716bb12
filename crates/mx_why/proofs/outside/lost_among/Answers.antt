use Rattle.std.proofs.Common.{refl}
use Rattle.mx_why.proofs.LostLemmas.{line_followed}
use Rattle.mx_why.proofs.outside.lost_among.Goals as goal

pub loop-index-preserved : goal.loop-index-preserved
loop-index-preserved c =
    let inv = c.loop-index.invariant in
    record {
      lost = line_followed c.args.tried c.args.made.now c.loop-index.index c.loop-index.found c.in_ok-found.found c.args.said.now _ _ c.loop-index.lost.items c.follow_line.new.lost.items _
          c.loop-index-test.true refl c.in_ok-found.ensures.found c.in_ok-found.ensures.lost inv.lost;
      few = c.in_ok-found.ensures.few;
    }
