use Rattle.std.proofs.Common.{◌≡◌, ◌∙◌, ◌-◌, refl, arith}
use Rattle.mx_walk.proofs.PartsShown.{next_between, none_between, up_to}
use Rattle.mx_walk.proofs.showing.show_parts.Goals as goal

pub loop-done-init : goal.loop-done-init
loop-done-init g c = record {
  low = omega arith;
  few = omega arith;
  shown = none_between c.args.all c.args.from (g.P.Progress.shown c.args.progress.now);
}

pub loop-done-preserved : goal.loop-done-preserved
loop-done-preserved g c =
    let inv = c.loop-done.invariant in
    record {
      low = omega (arith, inv.low);
      few = omega (arith, inv.low, c.loop-done-test.true);
      shown = next_between c.args.all c.args.all c.args.from c.loop-done.done _ _ _ inv.low refl inv.shown c.show.ensures;
    }

pub returns : goal.returns
returns g c =
    let inv = c.loop-done.invariant in
    let few = inv.few in
    let end : c.loop-done.done - c.args.from ≡ c.args.to - c.args.from = omega (arith, few, c.loop-done-test.false) in
    inv.shown ∙ up_to c.args.all c.args.from c.loop-done.done c.args.to _ end
