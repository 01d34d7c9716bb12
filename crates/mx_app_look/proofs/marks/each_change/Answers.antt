use Rattle.std.proofs.Common.{◌∙◌, []}
use Rattle.std.proofs.lemmas.List.{take_all}
use Rattle.mx_app_look.specs.Ranges.{Kept}
use Rattle.mx_app_look.proofs.Lists.{placed_more}
use Rattle.mx_app_look.proofs.marks.each_change.Goals as goal

pub loop-watch-preserved : goal.loop-watch-preserved
loop-watch-preserved c =
    placed_more (λ (m : Kept). m.watch) [] c.args.watches.now c.loop-watch.watch-index _ c.loop-watch.marks.items c.push.new.self.items c.in_ok-mark.mark
    c.loop-watch-test.true c.in-Ok.ensures.items c.in_ok-mark.ensures c.loop-watch.invariant

pub returns : goal.returns
returns c = c.loop-watch.invariant ∙ take_all c.loop-watch.watch-index c.args.watches.now c.loop-watch-test.false
